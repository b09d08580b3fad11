use Rattle.std.proofs.Common.{◌≡◌}
use Rattle.host_writer.specs.Dropping.{IsCounted}
use Rattle.reflector.specs.Tellings.{IsTelling, desk}
use Rattle.run_traits.specs.LinkTrails.{links_in}
use Rattle.reflector.proofs.writer.tell_each.Given as goal

-- The taker stays one of the same relay, whichever host is told, and the hosts so far were told what it took.
abbrev pub invariant-loop : goal.invariant-loop
invariant-loop g l =
    (goal.iterator-loop g).can_next l.iterator' × (goal.iterator-loop g).is_finite l.iterator' × (g.K.InputSource.relay l.idle.taker ≡ g.K.InputSource.relay l.fn.free.taker)
    × (IsCounted (g.K.InputSource.taken l.fn.free.taker) l.fn.free.strokes (g.D.DropCount.dropped l.fn.free.drops) → IsCounted (g.K.InputSource.taken l.idle.taker) l.idle.strokes (g.D.DropCount.dropped l.idle.drops))
    × IsTelling g.S.ScreenSource.looks g.S.ScreenSource.width g.S.ScreenSource.height (desk (links_in g.L.Link.state l.fn.free.told_links) l.fn.free.source (g.K.InputSource.taken l.fn.free.taker) l.fn.free.strokes)
    (desk (links_in g.L.Link.state l.idle.told_links) l.idle.source (g.K.InputSource.taken l.idle.taker) l.idle.strokes)

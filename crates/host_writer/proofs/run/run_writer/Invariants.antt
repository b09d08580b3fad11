use Rattle.std.proofs.Common.{◌≡◌, [], length}
use Rattle.host_writer.specs.Dropping.{IsCounted}
use Rattle.host_writer.specs.Moment.{IsOpen, IsTelling}
use Rattle.host_writer.specs.Saying.{left_of}
use Rattle.host_writer.specs.Writing.{whole_request}
use Rattle.host_writer.proofs.run.run_writer.Given as goal

abbrev pub invariant-loop : goal.invariant-loop
invariant-loop g l =
    (goal.iterator-loop g).can_next l.iterator' × (goal.iterator-loop g).is_finite l.iterator'
    × record {
      idle : left_of l.telling.saying ≡ [];
      whole : l.telling.request ≡ whole_request (g.S.ScreenSource.width l.fn.telling.source) (g.S.ScreenSource.height l.fn.telling.source);
      relay : g.K.InputSource.relay l.telling.taker ≡ g.K.InputSource.relay l.fn.telling.taker;
      places : length l.telling.strokes.counts ≡ length l.fn.telling.strokes.counts;
      counted : IsCounted (g.K.InputSource.taken l.fn.telling.taker) l.fn.telling.strokes (g.D.DropCount.dropped l.fn.telling.drops) → IsCounted (g.K.InputSource.taken l.telling.taker) l.telling.strokes (g.D.DropCount.dropped l.telling.drops);
      is_open : IsOpen (g.L.Link.state l.fn.telling.link) (g.L.Link.state l.telling.link);
      telling : IsTelling g.S.ScreenSource.looks l.fn.telling.source l.telling.source (g.K.InputSource.taken l.fn.telling.taker) (g.K.InputSource.taken l.telling.taker) l.fn.telling.strokes l.telling.strokes (g.S.ScreenSource.width l.fn.telling.source) (g.S.ScreenSource.height l.fn.telling.source) l.telling.asked l.telling.saying (g.L.Link.state l.fn.telling.link) (g.L.Link.state l.telling.link);
      first : l.telling.first ≡ l.fn.telling.first;
    }

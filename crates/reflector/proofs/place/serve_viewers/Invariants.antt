use Rattle.std.proofs.Common.{◌≡◌}
use Rattle.reflector.specs.Visits.{IsReceived, IsVisiting, at, setup_of}
use Rattle.reflector.proofs.place.serve_viewers.Given as goal

abbrev pub invariant-loop : goal.invariant-loop
invariant-loop g l =
    (goal.iterator-loop g).can_next l.iterator' × (goal.iterator-loop g).is_finite l.iterator'
    × (l.free.lent ≡ l.fn.place.lent)
    × IsVisiting g.D.Door.lets_in g.D.Door.sees_off
    (λ source_old source_new sent_old sent_new why left. IsReceived g.S.ScreenSource.looks g.S.ScreenSource.cuts g.S.ScreenSource.may_end (g.F.StopFlag.was_set l.fn.place.lent.stop.now) g.K.InputSink.may_refuse
    g.S.ScreenSource.known (setup_of l.fn.place.lent.maker.now.width l.fn.place.lent.maker.now.height l.fn.place.lent.maker.now.name.items l.fn.place.lent.maker.now.form l.fn.place.lent.maker.now.host) l.fn.place.lent.maker.now.role source_old source_new sent_old sent_new why left)
    (at l.fn.place.door l.fn.place.source (g.K.InputSink.sent l.fn.place.sink)) (at l.free.door l.free.source (g.K.InputSink.sent l.free.sink))

-- One visit more.
use Rattle.std.proofs.Math.Logic.{∥∥₁_map}
use Rattle.reflector.specs.Visits.{at}
use Rattle.reflector.proofs.Visiting.{visiting_on}
use Rattle.reflector.proofs.stages.BusyPlace.close.Goals as goal

pub invariant_of-result-clause-lawful : goal.invariant_of-result-clause-lawful
invariant_of-result-clause-lawful g c =
    let began = c.args.self.began.now in
    rw (c.into_parts-link.ensures.1, c.into_parts-link.ensures.2)
    (∥∥₁_map c.args.self.lawful (λ k. visiting_on _ _ _ _ (at k.0 began.source.value (g.K.InputSink.sent began.sink.value)) _ _ _ _ (g.D.Viewer.Link.state c.args.visit.link) _ k.1 k.2 c.requires (rw (← c.into_parts-link.ensures.0) (rw c.new.ensures at c.left.ensures))))

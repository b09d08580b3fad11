-- These were all visits.
use Rattle.std.proofs.Math.Logic.{∥∥₁_map}
use Rattle.reflector.proofs.Visiting.{visits_stop}
use Rattle.reflector.proofs.stages.FreePlace.leave.Goals as goal

pub invariant_of-result : goal.invariant_of-result
invariant_of-result g c = record { lawful = ∥∥₁_map c.args.self.lawful (λ k. visits_stop _ _ _ _ _ k) }

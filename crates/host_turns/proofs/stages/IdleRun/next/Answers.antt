-- The next host came, or the run is over.
use Rattle.std.proofs.Math.Logic.{∥∥₁_map}
use Rattle.host_turns.proofs.stages.IdleRun.next.Goals as goal

pub invariant_of-result-2-clause-lawful : goal.invariant_of-result-2-clause-lawful
invariant_of-result-2-clause-lawful g c = ∥∥₁_map c.args.self.lawful (λ k. (c.in-Some.ensures.came, k))

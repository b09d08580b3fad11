-- Bytes were given.
use Rattle.std.proofs.Math.Logic.{∥∥₁_map}
use Rattle.host_writer.proofs.Writers.{telling_gave}
use Rattle.host_writer.proofs.telling.Telling.give.Goals as goal

pub invariant_of-self-clause-lawful : goal.invariant_of-self-clause-lawful
invariant_of-self-clause-lawful g c = ∥∥₁_map c.args.self.now.lawful (λ k. telling_gave g.S.ScreenSource.looks _ _ _ _ _ _ _ _ _ _ _ _ _ _ k c.give.ensures.gives)

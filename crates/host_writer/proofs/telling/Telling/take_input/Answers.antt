-- An input was taken, or there was none.
use Rattle.std.proofs.Math.Logic.{∥∥₁_map}
use Rattle.host_writer.proofs.Writers.{telling_took}
use Rattle.host_writer.proofs.telling.Telling.take_input.Goals as goal

pub invariant_of-self-clause-counted : goal.invariant_of-self-clause-counted
invariant_of-self-clause-counted g c = ∥∥₁_map c.args.self.now.counted (λ f. λ k. c.take_input.ensures.counted (f k))

pub invariant_of-self-clause-lawful : goal.invariant_of-self-clause-lawful
invariant_of-self-clause-lawful g c = ∥∥₁_map c.args.self.now.lawful (λ k. telling_took g.S.ScreenSource.looks _ _ _ _ _ _ _ _ _ _ _ c.take_input.result _ _ _ _ k c.requires c.take_input.ensures.takes)

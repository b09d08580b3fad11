-- The source was looked at.
use Rattle.std.proofs.Math.Logic.{∥∥₁_map}
use Rattle.host_writer.proofs.Writers.{telling_looked}
use Rattle.host_writer.proofs.telling.Telling.look.Goals as goal

pub invariant_of-self-clause-lawful : goal.invariant_of-self-clause-lawful
invariant_of-self-clause-lawful g c = ∥∥₁_map c.args.self.now.lawful (λ k. telling_looked g.S.ScreenSource.looks _ _ _ _ _ _ _ _ _ _ _ _ _ _ _ _ k c.requires c.args.self.now.whole c.look.ensures)

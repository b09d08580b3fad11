-- What a join keeps is more than what it promises.
use Rattle.std.proofs.Math.Logic.{∥∥₁_map}
use Rattle.link.proofs.Handshaking.{joining_promised}
use Rattle.link.proofs.joining.Joining.so_far.Goals as goal

pub returns : goal.returns
returns g c = ∥∥₁_map c.args.self.now.lawful (λ k. joining_promised c.args.self.now.is_heard _ _ _ _ _ k)

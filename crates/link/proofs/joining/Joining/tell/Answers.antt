-- The first messages are told on.
use Rattle.std.proofs.Math.Logic.{∥∥₁_map}
use Rattle.link.proofs.Handshaking.{still_tells, was_told}
use Rattle.link.proofs.joining.Joining.tell.Goals as goal

pub invariant_of-self : goal.invariant_of-self
invariant_of-self g c =
    record {
      lawful = ∥∥₁_map c.args.self.now.lawful (λ k.
          let was = was_told c.args.self.now.is_heard _ _ _ _ _ c.requires.tells k in still_tells c.args.self.now.is_heard _ _ _ _ _ c.requires.tells (was.0, c.tell.ensures.so_far _ _ was.0 was.1));
    }

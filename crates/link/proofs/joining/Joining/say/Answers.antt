-- The handshake is heard on.
use Rattle.std.proofs.Math.Logic.{∥∥₁_map}
use Rattle.link.proofs.Handshaking.{still_hears, was_heard}
use Rattle.link.proofs.joining.Joining.say.Goals as goal

pub invariant_of-self : goal.invariant_of-self
invariant_of-self g c = record { lawful = ∥∥₁_map c.args.self.now.lawful (λ k. still_hears c.args.self.now.is_heard _ _ _ _ _ c.requires.hears (c.say.ensures.so_far _ (was_heard c.args.self.now.is_heard _ _ _ _ _ c.requires.hears k))) }

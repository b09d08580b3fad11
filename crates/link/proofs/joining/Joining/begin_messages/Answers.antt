-- The handshake was heard, and nothing of the messages was given.
use Rattle.std.proofs.Common.{ap, refl, sym}
use Rattle.std.proofs.Math.Logic.{∥∥₁_map}
use Rattle.rfb_wire.specs.Handshake.{Joined}
use Rattle.link.proofs.Handshaking.{messages_begin, was_heard}
use Rattle.link.proofs.joining.Joining.begin_messages.Goals as goal

pub invariant_of-self : goal.invariant_of-self
invariant_of-self g c =
    let joined = c.args.joined.now in
    let is = sym c.joined.view_is in
    record {
      lawful = ∥∥₁_map c.args.self.now.lawful (λ k.
          (joined, messages_begin _ _ _ joined _ c.requires.whole c.requires.said (c.messages_of-self.ensures joined (ap (λ (j : Joined). j.w) is) (ap (λ (j : Joined). j.h) is)) (was_heard c.args.self.now.is_heard _ _ _ _ _ c.requires.hears k)));
    }

pub returns-clause-tells : goal.returns-clause-tells
returns-clause-tells g c = let is = sym c.joined.view_is in (refl, refl, c.messages_of-self.ensures c.args.joined.now (ap (λ (j : Joined). j.w) is) (ap (λ (j : Joined). j.h) is))

use Rattle.std.proofs.Common.{[], refl, sym, ap, subst, inl, arith}
use Rattle.roles.specs.Held.{Kept, HeldStands}
use Rattle.viewer_session.proofs.KeptShort.{client_message_short}
use Rattle.viewer_session.proofs.Relaying.{nothing_held}
use Rattle.viewer_session.proofs.session.Session.begun.Goals as goal

pub returns-clause-stands : goal.returns-clause-stands
returns-clause-stands c = λ s greet ew eh en ef b.
    record {
      serves = record {
        width = sym ew;
        height = sym eh;
        form = sym en;
        host = sym ef;
        role = refl;
        rests = refl;
        greets = b.greets;
        reading = inl c.new-2.ensures;
        taken = refl;
        short = client_message_short;
        keeps = record { asked = c.new-3.ensures.stands; have = c.in_ok-have.ensures.ok.2; format = refl; choice = refl; told = refl };
        written = omega arith;
        unsent = b.unsent;
        begun = refl;
      };
      relays = record {
        waiting = refl;
        keys = sym (ap (λ (kept : Kept). kept.keys) c.new-4.ensures);
        held = subst (λ (kept : Kept). HeldStands c.args.role kept []) (sym c.new-4.ensures) (nothing_held c.args.role);
      };
    }

use Rattle.std.proofs.Common.{◌≡◌, Option, true, false, Ok, ap, sym, subst, ◌∙◌}
use Rattle.std.specs.Prelude.{is_some}
use Rattle.byte_reading.specs.Reading.{whole_of}
use Rattle.rfb_wire.specs.Greeting.{Greeting}
use Rattle.rfb_wire.specs.Message.{FeedsOrLoses}
use Rattle.viewer_session.specs.Session.{State, hello_of, is_greeted}
use Rattle.rfb_wire.specs.ClientReader.{ahead}
use Rattle.viewer_session.proofs.Feeding.{uses_some, none_waits, no_fault}
use Rattle.viewer_session.proofs.session.Session.read_one.Goals as goal

-- The session's hello is done.
greeted_is : (o : Option Greeting) (st : State) → o ≡ st.greeting → is_some (whole_of (hello_of o)) ≡ false → is_greeted st ≡ true → ⊥
greeted_is o st same open_ greeted = let both : is_some (whole_of (hello_of o)) ≡ true = ap (λ q. is_some (whole_of (hello_of q))) same ∙ greeted in let never : false ≡ true = sym open_ ∙ both in cc

pub invariant_of-self-2 : goal.invariant_of-self-2
invariant_of-self-2 c =
    record {
      size = c.self.invariant.size;
      taken = none_waits (ahead c.feed.new.self) (ahead c.take-message.new.self) _ c.take-message.ensures;
      fresh = λ open_. absurd (greeted_is c.self.inside.hello c.args.self.now (ap (λ (st : State). st.greeting) c.self.view_is) open_ c.requires);
      asked_size = c.self.invariant.asked_size;
      have_size = c.self.invariant.have_size;
      cut_size = c.self.invariant.cut_size;
      greets = c.self.invariant.greets;
    }

pub returns-clause-ok : goal.returns-clause-ok
returns-clause-ok c = (
  record { begun = ahead c.feed.new.self; feeds = subst (λ (st : State). FeedsOrLoses (ahead st.reader) (ahead c.feed.new.self) c.args.piece.now (Ok c.in_ok-used.used)) c.self.view_is c.in_ok-used.ensures; gives = c.take-message.ensures },
  no_fault (ahead c.self.inside.reader) (ahead c.feed.new.self) (ahead c.take-message.new.self) c.args.piece.now c.in_ok-used.used _ c.in_ok-used.ensures c.take-message.ensures,
)

pub returns-clause-progress : goal.returns-clause-progress
returns-clause-progress c = uses_some _ _ c.args.piece.now c.in_ok-used.used c.self.invariant.taken c.in_ok-used.ensures

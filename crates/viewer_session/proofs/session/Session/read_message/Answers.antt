use Rattle.std.proofs.Common.{◌≡◌, ℕ, Bool, List, drop, Option, Some, None, sym, ap, subst, ◌∙◌}
use Rattle.std.specs.Prelude.{option_map}
use Rattle.std.proofs.lemmas.Result.{err_from_is_err_and}
use Rattle.byte_reading.specs.Reading.{fault_of}
use Rattle.rfb_wire.specs.ClientReader.{ahead}
use Rattle.rfb_wire.specs.Message.{message_of}
use Rattle.rfb_wire.specs.declared.message.ClientMessage as declared
use Rattle.rfb_wire.specs.declared.client_reader.ClientReader.{ClientReader}
use Rattle.viewer_session.specs.Session.{State, IsFeeding, ReadsOne, marks_in}
use Rattle.viewer_session.proofs.FeedLaws.{fault_met, feeding_goes_on, feeding_takes, feeding_faults, greeted_by}
use Rattle.viewer_session.proofs.session.Session.read_message.Goals as goal

-- What was read whole.
read : (old new : State) (piece : List ℕ) (used : ℕ) (m n : Option declared.ClientMessage) → m ≡ n → ReadsOne old new piece used (option_map message_of m) → ReadsOne old new piece used (option_map message_of n)
read old new piece used m n e one = subst (λ (t : Option declared.ClientMessage). ReadsOne old new piece used (option_map message_of t)) e one

pub returns-in_err-used-clause-err : goal.returns-in_err-used-clause-err
returns-in_err-used-clause-err c =
    let failed = err_from_is_err_and c.from_residual.result c.from_residual.ensures.1 in
    let met = c.in_err-used.ensures.err in
    rw (failed.1, failed.2) (
      fault_met (ahead c.args.self.now.reader) (ahead c.read_one.new.self.reader) c.args.piece.now c.in_err-used.field-0.0 met,
      feeding_faults c.args.self.now c.read_one.new.self c.args.piece.now c.in_err-used.field-0.0 c.requires.greeted c.requires.none c.in_err-used.ensures.others met,
    )

pub returns-in_default-clause-ok : goal.returns-in_default-clause-ok
returns-in_default-clause-ok c =
    let one = c.in_ok-used.ensures in (
      feeding_goes_on c.args.self.now c.read_one.new.self c.args.piece.now c.in_ok-used.used c.requires.greeted c.requires.none one.others
          (read c.args.self.now c.read_one.new.self c.args.piece.now c.in_ok-used.used c.in_ok-used.message None c.in_default.is one.ok.0),
      one.ok.1,
    )

pub returns-clause-ok : goal.returns-clause-ok
returns-clause-ok c =
    let one = c.in_ok-used.ensures in
    let taken = c.take_message.ensures in
    let greeted = greeted_by c.args.self.now c.take_message.new.self (taken.reader.1 ∙ ap (λ (st : State). st.greeting) one.others) c.requires.greeted in (
      subst (λ (o : Option Bool). IsFeeding c.args.self.now c.take_message.new.self (marks_in o) c.args.piece.now (drop c.in_ok-used.used c.args.piece.now)) (sym c.mark_of-lost.ensures)
          (feeding_takes c.args.self.now c.read_one.new.self c.take_message.new.self c.args.piece.now c.in_ok-used.used (message_of c.in-Some.message) c.requires.greeted c.requires.none one.others
          (read c.args.self.now c.read_one.new.self c.args.piece.now c.in_ok-used.used c.in_ok-used.message (Some c.in-Some.message) c.in-Some.is one.ok.0) taken.stands),
      ap (λ (r : ClientReader). fault_of (ahead r)) taken.reader.0 ∙ one.ok.1,
    )

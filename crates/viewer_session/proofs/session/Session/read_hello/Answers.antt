use Rattle.std.proofs.Common.{◌≡◌, false, Some, None, drop, arith, refl, sym, ap, ◌∙◌}
use Rattle.std.specs.Prelude.{is_some}
use Rattle.byte_reading.specs.Reading.{whole_of}
use Rattle.viewer_session.specs.Session.{State, hello_fault, hello_of}
use Rattle.viewer_session.proofs.FeedLaws.{feeding_begins}
use Rattle.viewer_session.proofs.HelloLaws.{feeding_byte, feeding_hello_faults, never_stuck, some_if}
use Rattle.viewer_session.proofs.session.Session.read_hello.Goals as goal
use Rattle.viewer_session.proofs.session.Session.read_hello.Goals.{then-loop-used-test+else-wants_hello, else-loop-used-test}

-- A hello leaves the input as it is.
waiting_is : (old now : State) → now ≡ record old { greeting = now.greeting; piece = now.piece; unsent = now.unsent } → old.waiting ≡ None → now.waiting ≡ None
waiting_is old now same none = ap (λ (st : State). st.waiting) same ∙ none

pub loop-used-init : goal.loop-used-init
loop-used-init c = record { within = omega arith; fed = feeding_begins c.args.self.now c.args.piece.now; others = refl; unused = λ z. refl }

pub loop-used-preserved : goal.loop-used-preserved
loop-used-preserved c =
    let i = c.loop-used.invariant in
    record {
      within = omega arith;
      fed = feeding_byte c.args.self.now c.loop-used.self c.greet.new.self c.args.piece.now c.loop-used.used i.fed c.loop-used-test.true (sym c.wants_hello.ensures ∙ c.if-wants_hello.true) (waiting_is c.args.self.now c.loop-used.self i.others c.requires.none) c.greet.ensures.stands;
      others = c.greet.ensures.others ∙ ap (λ (st : State). record st { greeting = c.greet.new.self.greeting; piece = c.greet.new.self.piece; unsent = c.greet.new.self.unsent }) i.others;
      unused = λ z. absurd (omega (arith, z));
    }

pub returns-in-Some-clause-err : goal.returns-in-Some-clause-err
returns-in-Some-clause-err c =
    let fault : hello_fault c.loop-used.self ≡ Some c.in-Some.fault = sym c.hello_fault.ensures ∙ c.in-Some.is in
    let i = c.loop-used.invariant in
    (fault, feeding_hello_faults c.args.self.now c.loop-used.self c.args.piece.now (drop c.loop-used.used c.args.piece.now) c.in-Some.fault i.fed fault (waiting_is c.args.self.now c.loop-used.self i.others c.requires.none))

pub returns-in-None-clause-ok : goal.returns-in-None-clause-ok
returns-in-None-clause-ok c =
    let i = c.loop-used.invariant in
    let fine : hello_fault c.loop-used.self ≡ None = sym c.hello_fault.ensures ∙ c.in-None.is in
    let used = c.loop-used.used in
    record {
      fed = i.fed;
      within = i.within;
      some = λ lt. some_if used (λ z.
          let open_ : is_some (whole_of (hello_of c.loop-used.self.greeting)) ≡ false = ap (λ (st : State). is_some (whole_of (hello_of st.greeting))) (i.unused z) ∙ c.requires.open in
          elim c.loop-used-test.branch [
            | then-loop-used-test+else-wants_hello w ↦ never_stuck (hello_of c.loop-used.self.greeting) (sym w.wants_hello.ensures ∙ w.if-wants_hello.false) fine open_
            | else-loop-used-test w ↦ omega (arith, w.loop-used-test.false, z, lt)
          ]);
      fine = fine;
    }

use Rattle.std.proofs.Common.{◌≡◌, ◌≤◌, ◌+◌, ℕ, List, Bool, true, false, [], ◌++◌, length, drop, None, refl, sym, ap, subst, ◌∙◌, inl, inr, ◌⊎◌, arith}
use Rattle.std.specs.Prelude.{is_some}
use Rattle.std.proofs.lemmas.List.{drop_all, drop-drop, length-drop}
use Rattle.std.proofs.lemmas.Result.{err_from_is_err_and}
use Rattle.viewer_session.specs.Session.{State, IsFeeding, fault_in, marks_in}
use Rattle.viewer_session.proofs.FeedLaws.{feeding_on, feeds_to, same_on}
use Rattle.viewer_session.proofs.session.Session.feed.Goals as goal
use Rattle.viewer_session.proofs.session.Session.feed.Goals.{then-loop-used-test+else-not-has_input, else-loop-used-test, in_default-via-in-Some+else-not-has_input-2, in_default-via-in_default}

-- What is left of the piece.
left_of : (old now : State) (marks : List Bool) (piece left : List ℕ) (used : ℕ) → left ≡ drop used piece → IsFeeding old now marks piece (drop used piece) → IsFeeding old now marks piece left
left_of old now marks piece left used e h = subst (λ (l : List ℕ). IsFeeding old now marks piece l) (sym e) h

further : (piece left : List ℕ) (used more : ℕ) → left ≡ drop used piece → drop more left ≡ drop (used + more) piece
further piece left used more e = ap (drop more) e ∙ drop-drop more used piece ∙ ap (λ n. drop n piece) (omega arith)

never : (b : Bool) → b ≡ true → b ≡ false → ⊥
never true e f = absurd cc
never false e f = absurd cc

pub returns-in_err-fed-clause-err : goal.returns-in_err-fed-clause-err
returns-in_err-fed-clause-err c =
    let failed = err_from_is_err_and c.from_residual.result c.from_residual.ensures.1 in
    let i = c.loop-used.invariant in
    let met = c.in_err-fed.ensures.err in
    let left : List ℕ = c.split_at.result.1.now in
    rw (failed.1, failed.2)
    (record {
      stands_at = met.0;
      marks = i.fed.0 ++ [];
      feeds = feeds_to c.args.self.now c.feed_message.new.self (i.fed.0 ++ []) c.args.piece.now []
          (feeding_on c.args.self.now c.loop-used.self c.feed_message.new.self i.fed.0 [] c.args.piece.now left [] (left_of c.args.self.now c.loop-used.self i.fed.0 c.args.piece.now left c.loop-used.used c.split_at.ensures.back i.fed.1) met.1) (inl refl);
    })

pub loop-used-preserved : goal.loop-used-preserved
loop-used-preserved c =
    let i = c.loop-used.invariant in
    let now = c.in_ok-fed.ensures in
    let used : ℕ = c.loop-used.used in
    let more : ℕ = c.in_ok-fed.fed.used in
    let left : List ℕ = c.split_at.result.1.now in
    let marks : List Bool = marks_in c.in_ok-fed.fed.lost in
    record {
      within = omega (arith, now.progress.0, ap length c.split_at.ensures.back, length-drop used c.args.piece.now, i.within);
      fed = (
        i.fed.0 ++ marks,
        subst (λ (l : List ℕ). IsFeeding c.args.self.now c.feed_message.new.self (i.fed.0 ++ marks) c.args.piece.now l) (further c.args.piece.now left used more c.split_at.ensures.back)
            (feeding_on c.args.self.now c.loop-used.self c.feed_message.new.self i.fed.0 marks c.args.piece.now left (drop more left) (left_of c.args.self.now c.loop-used.self i.fed.0 c.args.piece.now left used c.split_at.ensures.back i.fed.1) now.ok.0),
      );
      same = same_on c.args.self.now c.loop-used.self c.feed_message.new.self i.same now.same;
    }

pub returns-in-Some-clause-err : goal.returns-in-Some-clause-err
returns-in-Some-clause-err c =
    let i = c.loop-used.invariant in
    let now : State = c.loop-used.self in
    let none : is_some now.waiting ≡ false = sym c.if-not-has_input-2.ensures in
    let all : length c.args.piece.now ≤ c.loop-used.used =
    elim c.loop-used-test.branch [
      | then-loop-used-test+else-not-has_input w ↦ absurd (never (is_some now.waiting) (sym w.if-not-has_input.ensures) none)
      | else-loop-used-test w ↦ omega (arith, w.loop-used-test.false)
    ] in
    let end : drop c.loop-used.used c.args.piece.now ≡ [] = drop_all c.loop-used.used c.args.piece.now all in
    record {
      stands_at = sym c.fault.ensures ∙ c.in-Some.is;
      marks = i.fed.0;
      feeds = feeds_to c.args.self.now now i.fed.0 c.args.piece.now [] (subst (λ (l : List ℕ). IsFeeding c.args.self.now now i.fed.0 c.args.piece.now l) end i.fed.1) (inl refl);
    }

-- All of the piece was used, or an input waits.
nothing_left : (now : State) (piece : List ℕ) (used : ℕ) → ((used ≡ length piece) × (fault_in now ≡ None)) ⊎ (is_some now.waiting ≡ true) → (drop used piece ≡ []) ⊎ (is_some now.waiting ≡ true)
nothing_left now piece used (inl e) = inl (drop_all used piece (omega (arith, e.0)))
nothing_left now piece used (inr e) = inr e

pub returns-in_default-clause-ok : goal.returns-in_default-clause-ok
returns-in_default-clause-ok c =
    let i = c.loop-used.invariant in
    let now : State = c.loop-used.self in
    let piece : List ℕ = c.args.piece.now in
    let used : ℕ = c.loop-used.used in
    let ends : ((used ≡ length piece) × (fault_in now ≡ None)) ⊎ (is_some now.waiting ≡ true) =
    elim c.loop-used-test.branch [
      | then-loop-used-test+else-not-has_input w ↦ inr (sym w.if-not-has_input.ensures)
      | else-loop-used-test w ↦ elim c.in_default.branch [
        | in_default-via-in-Some+else-not-has_input-2 v ↦ inr (sym v.if-not-has_input-2.ensures)
        | in_default-via-in_default v ↦ inl (omega (arith, w.loop-used-test.false, i.within), sym c.fault.ensures ∙ v.in_default.is)
      ]
    ] in
    record {
      within = i.within;
      all = ends;
      marks = i.fed.0;
      feeds = feeds_to c.args.self.now now i.fed.0 piece (drop used piece) i.fed.1 (nothing_left now piece used ends);
    }

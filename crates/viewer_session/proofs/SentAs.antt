-- How an answer is sent at a cut: as it was begun, or whole. `Session::turn_at` owes that the definitions allow it.
use Rattle.std.proofs.Common.{◌≡◌, ℕ, suc, ◌+◌, ◌<◌, Bool, true, false, cond, List, [], ◌∷◌, ◌++◌, length, take, Option, Some, None, refl, sym, ap, subst, ◌∙◌, arith, append_assoc, length-append}
use Rattle.std.specs.Prelude.{◌&&◌, is_some, unwrap_or}
use Rattle.std.specs.List.{flat_map}
use Rattle.raster.specs.declared.rect.Rect.{Rect}
use Rattle.raster.specs.declared.size.Size.{Size}
use Rattle.raster.specs.Update.{Update}
use Rattle.rfb_wire.specs.Writing.{update_head_bytes}
use Rattle.rfb_wire.specs.ClientMessage.{Choice}
use Rattle.viewer_session.specs.declared.form.AnswerForm.{AnswerForm}
use Rattle.reflect_core.specs.declared.cut.Cut as cutting
use Rattle.reflect_core.specs.Source.{IsCutOf, copies_in}
use Rattle.update_encoder.specs.Answer.{copy_bytes}
use Rattle.update_encoder.specs.Coming.{Answering, coming}
use Rattle.zrle_answer.specs.Rectangle.{ZlibStream}
use Rattle.zrle_answer.specs.Written.{IsWholeOf, has_begun}
use Rattle.viewer_session.specs.declared.update.Update as declared
use Rattle.viewer_session.specs.declared.update.Update.TheVariants.{Runs as InRuns, Whole}
use Rattle.viewer_session.specs.Chosen.{IsChosen, MayBeChosen}
use Rattle.viewer_session.specs.Found.{IsSentAs, IsWholeAnswer, begun_bytes, update_in}
use Rattle.viewer_session.specs.Outgoing.{answer_coming, size_and}
use Rattle.viewer_session.specs.Record.{Entry, choice_of}
use Rattle.viewer_session.specs.Session.{State, Serves, asked_now, since_now, style_now, told_now}
use Rattle.viewer_session.specs.Turn.{Chosen, asked_part, has_answer, since_of, size_at, size_for, size_or_update, stream_after, update_at, update_for, update_part, with_chosen}
use Rattle.viewer_session.specs.Viewer.{Setup, Viewer}
use Rattle.viewer_session.proofs.TurnLaws.{IsCutFor, Sends, asked_is, same_style, since_is, size_is, update_is}
use Rattle.viewer_session.proofs.WholeAnswers.{AnswersOf, answers_on}

-- ---- an answer that is sent as it was begun

unchosen : (s : Setup) (st : State) (p : Viewer) (us : List Update) (here : Option (Rect × List ℕ)) (size : Option Size) (begun : Bool) (update : List ℕ) → Serves s st p → update ≡ size_or_update size here → begun ≡ st.begun → Sends s us p here size begun update
unchosen s st p us here size begun update k bytes same = record { chosen = None; may_be = tt; bytes = bytes; streams = same ∙ k.begun }

-- ---- an answer that is sent whole

-- An answer that was begun has bytes, so the definitions find one.
found_some : (here : Option (Rect × List ℕ)) (head rest : List ℕ) → 0 < length head → head ++ rest ≡ update_part here → (found : Rect × List ℕ) × (here ≡ Some found)
found_some None head rest long e = absurd (let none : length (head ++ rest) ≡ 0 = ap length e in omega (arith, none, long, length-append head rest))
found_some (Some found) head rest long e = (found, refl)

begun_some : (answer : Option Answering) (cut : cutting.Cut) (here : Option (Rect × List ℕ)) → is_some answer ≡ true → begun_bytes answer cut ≡ update_part here → (found : Rect × List ℕ) × (here ≡ Some found)
begun_some None cut here some e = absurd cc
begun_some (Some answer) cut here some e =
    let head : List ℕ = update_head_bytes (length (copies_in cut) + answer.count) in
    let copies : List ℕ = flat_map copy_bytes (copies_in cut) in
    found_some here head (copies ++ coming answer cut) (omega arith) (sym (append_assoc head copies (coming answer cut)) ∙ e)

due_by : (b : Bool) (x found : Rect × List ℕ) → cond b (Some x) None ≡ Some found → b ≡ true
due_by true x found e = refl
due_by false x found e = absurd cc

due_there : (form : AnswerForm) (w h : ℕ) (es : List Entry) (us : List Update) (area : Rect) (found : Rect × List ℕ) → update_for form w h es us (Some area) ≡ Some found → has_answer form w h es us area ≡ true
due_there form w h es us area found e = due_by (has_answer form w h es us area) _ found e

part_alone : (size : Option Size) (begun : List ℕ) (here : Option (Rect × List ℕ)) → size ≡ None → size_and size begun ≡ size_or_update size here → begun ≡ update_part here
part_alone None begun here none e = e
part_alone (Some size) begun here none e = absurd cc

whole_alone : (size : Option Size) (bytes : List ℕ) (chosen : Chosen) (here : Option (Rect × List ℕ)) (found : Rect × List ℕ) → size ≡ None → here ≡ Some found → bytes ≡ chosen.bytes → size_and size bytes ≡ size_or_update size (with_chosen (Some chosen) here)
whole_alone size bytes chosen here found none is same =
    ap (λ o. size_and o bytes) none ∙ (same ∙ sym (ap (λ o. size_or_update o (with_chosen (Some chosen) here)) none ∙ ap (λ o. update_part (with_chosen (Some chosen) o)) is))

heeds : (s : Setup) (st mid : State) (p : Viewer) → Serves s st p → mid.form ≡ st.form → mid.choice ≡ st.choice → (mid.form.zrle && mid.choice.zrle) ≡ true → (s.form.zrle && (choice_of p.entries).zrle) ≡ true
heeds s st mid p k zrle choice e =
    ap (λ (f : AnswerForm). f.zrle && (choice_of p.entries).zrle) (sym (zrle ∙ k.form)) ∙ (ap (λ (c : Choice). mid.form.zrle && c.zrle) (sym (choice ∙ k.keeps.choice)) ∙ e)

whole : (s : Setup) (st mid : State) (p : Viewer) (cut : cutting.Cut) (known : List Update) (n : ℕ) (nowhere : Rect) (size : Option Size) (answer : Option Answering) (bytes : List ℕ) (begun : Bool) (area : Rect)
    → Serves s st p → IsCutFor st cut nowhere known n → mid.cut ≡ cut → mid.form ≡ st.form → mid.choice ≡ st.choice → style_now mid ≡ style_now st → mid.begun ≡ st.begun
    → size ≡ size_for st.width st.height st.host st.choice.resizes (told_now st) cut.host_size st.asked.area
    → (is_some answer ≡ true → size ≡ None) → size_and size (begun_bytes answer cut) ≡ size_or_update size (update_in (style_now st) cut (asked_now st))
    → is_some answer ≡ true → asked_now st ≡ Some area → IsWholeAnswer mid begun area bytes
    → Sends s (take n known) p (update_in (style_now st) cut (asked_now st)) size begun (size_and size bytes)
whole s st mid p cut known n nowhere size answer bytes begun area k c cut_is zrle choice style started sized alone part some asked w =
    let us : List Update = take n known in
    let here : Option (Rect × List ℕ) = update_in (style_now st) cut (asked_now st) in
    let none : size ≡ None = alone some in
    let found = begun_some answer cut here some (part_alone size (begun_bytes answer cut) here none part) in
    let whole_is : IsWholeOf (style_now st) cut area st.begun begun bytes =
    subst (λ b. IsWholeOf (style_now st) cut area b begun bytes) started (subst (λ t. IsWholeOf t cut area mid.begun begun bytes) style (subst (λ (t : cutting.Cut). IsWholeOf (style_now mid) t area mid.begun begun bytes) cut_is w.whole)) in
    let told = whole_is.answers p.stream (sym k.begun) in
    let update_there : here ≡ update_at s.form s.w s.h p.entries us = update_is s st p cut known n nowhere k c in
    let asked_there : asked_part s.w s.h p.entries ≡ Some area = sym (asked_is s st p k) ∙ asked in
    let due : has_answer s.form s.w s.h p.entries us area ≡ true =
    due_there s.form s.w s.h p.entries us area found.0 (ap (update_for s.form s.w s.h p.entries us) (sym asked_there) ∙ (sym update_there ∙ found.1)) in
    let is : IsCutOf known n area st.have (since_of s.form s.w s.h p.entries) cut =
    subst (λ o. IsCutOf known n area st.have o cut) (since_is s st p k) (subst (λ o. IsCutOf known n (unwrap_or o nowhere) st.have (since_now st) cut) asked c.is) in
    let answers : AnswersOf s.form s.w s.h p.entries us area p.stream bytes told.0 =
    answers_on s.form s.w s.h known n area st.have cut p.entries (style_now st) whole_is.rectangles p.stream told.0 bytes (c.have_width ∙ k.width) (c.have_height ∙ k.height) is (c.have_width ∙ c.width) (c.have_height ∙ c.height) k.keeps.have
    (same_style st s.form p.entries k.form k.keeps.format k.keeps.choice) whole_is.brings told.1 in
    let chosen : Chosen = record { bytes = bytes; stream = told.0 } in
    record {
      chosen = Some chosen;
      may_be = record {
        heeded = heeds s st mid p k zrle choice w.heeded;
        untold = sym (sized ∙ size_is s st p cut.host_size us k c.is.size) ∙ none;
        area = area;
        asked = asked_there;
        due = due;
        rectangles = answers.rectangles;
        brings = answers.brings;
        answers = answers.answers;
      };
      bytes = whole_alone size bytes chosen here found.0 none found.1 refl;
      streams = sym told.2;
    }

-- ---- any answer

pub sends : (s : Setup) (st mid : State) (p : Viewer) (cut : cutting.Cut) (known : List Update) (n : ℕ) (nowhere : Rect) (size : Option Size) (answer : Option Answering) (sent : Option declared.Update) (begun : Bool) (area : Option Rect)
    → Serves s st p → IsCutFor st cut nowhere known n → mid.cut ≡ cut → mid.form ≡ st.form → mid.choice ≡ st.choice → style_now mid ≡ style_now st → mid.begun ≡ st.begun
    → size ≡ size_for st.width st.height st.host st.choice.resizes (told_now st) cut.host_size st.asked.area
    → (is_some answer ≡ true → size ≡ None) → size_and size (begun_bytes answer cut) ≡ size_or_update size (update_in (style_now st) cut (asked_now st))
    → area ≡ asked_now st → IsSentAs mid begun area answer sent
    → Sends s (take n known) p (update_in (style_now st) cut (asked_now st)) size begun (size_and size (answer_coming true sent cut))
sends s st mid p cut known n nowhere size answer None begun area k c cut_is zrle choice style started sized alone part asked so =
    unchosen s st p (take n known) (update_in (style_now st) cut (asked_now st)) size begun (size_and size []) k (ap (λ a. size_and size (begun_bytes a cut)) (sym so.0) ∙ part) (so.1 ∙ started)
sends s st mid p cut known n nowhere size answer (Some (InRuns other)) begun area k c cut_is zrle choice style started sized alone part asked so =
    unchosen s st p (take n known) (update_in (style_now st) cut (asked_now st)) size begun (size_and size (begun_bytes (Some other) cut)) k (ap (λ a. size_and size (begun_bytes a cut)) (sym so.0) ∙ part) (so.1 ∙ started)
sends s st mid p cut known n nowhere size answer (Some (Whole bytes)) begun area k c cut_is zrle choice style started sized alone part asked so =
    whole s st mid p cut known n nowhere size answer bytes begun so.1.0 k c cut_is zrle choice style started sized alone part so.0 (sym asked ∙ so.1.1) so.1.2

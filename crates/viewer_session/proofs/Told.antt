-- A viewer that takes new sizes was told the size of each screen that it is answered of. The headline says it of each
-- answer.
use Rattle.std.proofs.Common.{◌≡◌, ℕ, ◌≤◌, Bool, true, false, cond, List, [], ◌∷◌, ◌++◌, length, take, Option, Some, None, refl, ap, sym, ◌∙◌, arith}
use Rattle.std.specs.Prelude.{◌&&◌, ◌==◌, not}
use Rattle.std.specs.List.{list_any, range_with_len}
use Rattle.std.proofs.lemmas.Bool.{eqb-true}
use Rattle.std.proofs.lemmas.List.{take-append-le, take_all}
use Rattle.raster.specs.declared.rect.Rect.{Rect}
use Rattle.raster.specs.declared.size.Size.{Size}
use Rattle.raster.specs.Screen.{tile_count}
use Rattle.raster.specs.Update.{Update, last_size}
use Rattle.viewer_session.specs.declared.form.AnswerForm.{AnswerForm}
use Rattle.reflect_core.specs.Asked.{pending}
use Rattle.viewer_session.specs.Record.{Entry, Took, Saw, MadeCut, Began, ToldSize, NumbersUpTo, events, choice_of}
use Rattle.viewer_session.specs.Told.{KnowsSize}
use Rattle.viewer_session.specs.Turn.{clipped_to, has_answer, host_size, is_same_size, size_at, size_for, size_if_new, told_at, told_of, update_at, update_for, began_at, record_after_cut_as, Chosen, with_chosen}

-- It knows the size at each answer of a record.
abbrev pub AllKnow : ℕ → ℕ → Option Size → List Update → List Entry → Type 0
AllKnow w h host us [] = Unit {0}
AllKnow w h host us (Took message ∷ es) = AllKnow w h host us es
AllKnow w h host us (Saw number ∷ es) = AllKnow w h host us es
AllKnow w h host us (MadeCut number ∷ es) = AllKnow w h host us es
AllKnow w h host us (Began area n bytes ∷ es) = KnowsSize w h host (take n us) es × AllKnow w h host us es
AllKnow w h host us (ToldSize size n bytes ∷ es) = AllKnow w h host us es

-- A further update changes nothing of it.
pub know_more : (w h : ℕ) (host : Option Size) (us : List Update) (u : Update) (es : List Entry) → NumbersUpTo (length us) es → AllKnow w h host us es → AllKnow w h host (us ++ u ∷ []) es
know_more w h host us u [] n k = tt
know_more w h host us u (Took message ∷ es) n k = know_more w h host us u es n k
know_more w h host us u (Saw number ∷ es) n k = know_more w h host us u es n.1 k
know_more w h host us u (MadeCut number ∷ es) n k = know_more w h host us u es n.1 k
know_more w h host us u (Began area number bytes ∷ es) n k = (
  λ first is takes. k.0 first is takes ∙ ap (λ vs. host_size w h first (last_size vs)) (sym (take-append-le number us (u ∷ []) n.0)),
  know_more w h host us u es n.1 k.1,
)
know_more w h host us u (ToldSize size number bytes ∷ es) n k = know_more w h host us u es n.1 k

both : (a b : Bool) → (a && b) ≡ true → (a ≡ true) × (b ≡ true)
both true b e = (refl, e)
both false b e = absurd cc

same_size : (a b : Size) → is_same_size a b ≡ true → b ≡ a
same_size a b e =
    let equal : ((a.width == b.width) ≡ true) × ((a.height == b.height) ≡ true) = both (a.width == b.width) (a.height == b.height) e in
    λ i. record { width = sym (eqb-true a.width b.width equal.0) i; height = sym (eqb-true a.height b.height equal.1) i }

not_new_by : (b : Bool) (told now : Size) → is_same_size now told ≡ b → cond (not b) (Some now) None ≡ None → told ≡ now
not_new_by true told now e none = same_size now told e
not_new_by false told now e none = absurd cc

-- No size is told to a viewer that takes new ones: it was told this one.
not_new : (resizes : Bool) (told now : Size) → size_if_new resizes told now ≡ None → resizes ≡ true → told ≡ now
not_new true told now none takes = not_new_by (is_same_size now told) told now refl none
not_new false told now none takes = absurd cc

knows_asked : (w h : ℕ) (host : Option Size) (us : List Update) (es : List Entry) (o : Option Rect) (area : Rect) → o ≡ Some area → size_for w h host (choice_of es).resizes (told_of w h es) (last_size us) o ≡ None → KnowsSize w h host us es
knows_asked w h None us es o area e none first is takes = absurd cc
knows_asked w h (Some host) us es None area e none first is takes = absurd cc
knows_asked w h (Some host) us es (Some asked) area e none first is takes =
    let same : host ≡ first = cc in
    not_new (choice_of es).resizes (told_of w h es) (host_size w h host (last_size us)) none takes ∙ ap (λ (t : Size). host_size w h t (last_size us)) same

know_if : (w h : ℕ) (host : Option Size) (us : List Update) (es : List Entry) (chosen : Option Chosen) (b : Bool) (found : Rect × List ℕ) → KnowsSize w h host us es → AllKnow w h host us es
    → AllKnow w h host us (began_at (length us) (with_chosen chosen (cond b (Some found) None)) (MadeCut (length us) ∷ es))
know_if w h host us es None true found here k = (λ first is takes. here first is takes ∙ ap (λ vs. host_size w h first (last_size vs)) (sym (take_all (length us) us (omega arith))), k)
know_if w h host us es (Some chosen) true found here k = (λ first is takes. here first is takes ∙ ap (λ vs. host_size w h first (last_size vs)) (sym (take_all (length us) us (omega arith))), k)
know_if w h host us es None false found here k = k
know_if w h host us es (Some chosen) false found here k = k

know_none : (w h : ℕ) (host : Option Size) (us : List Update) (es : List Entry) (chosen : Option Chosen) → AllKnow w h host us es → AllKnow w h host us (began_at (length us) (with_chosen chosen None) (MadeCut (length us) ∷ es))
know_none w h host us es None k = k
know_none w h host us es (Some chosen) k = k

know_for : (form : AnswerForm) (w h : ℕ) (host : Option Size) (us : List Update) (es : List Entry) (chosen : Option Chosen) (o : Option Rect) → size_for w h host (choice_of es).resizes (told_of w h es) (last_size us) o ≡ None → AllKnow w h host us es
    → AllKnow w h host us (began_at (length us) (with_chosen chosen (update_for form w h es us (clipped_to (told_of w h es) o))) (MadeCut (length us) ∷ es))
know_for form w h host us es chosen None none k = know_none w h host us es chosen k
know_for form w h host us es chosen (Some area) none k =
    know_if w h host us es chosen (has_answer form w h es us _) _ (knows_asked w h host us es (Some area) area refl none) k

know_begun : (form : AnswerForm) (w h : ℕ) (host : Option Size) (us : List Update) (es : List Entry) (chosen : Option Chosen) (o : Option Size) → size_at w h host es us ≡ o → AllKnow w h host us es
    → AllKnow w h host us (told_at (length us) o (with_chosen chosen (update_at form w h es us)) (MadeCut (length us) ∷ es))
know_begun form w h host us es chosen None none k = know_for form w h host us es chosen (pending (events w h es)) none k
know_begun form w h host us es chosen (Some size) e k = k

pub know_cut : (form : AnswerForm) (w h : ℕ) (host : Option Size) (us : List Update) (es : List Entry) (chosen : Option Chosen) → AllKnow w h host us es → AllKnow w h host us (record_after_cut_as chosen form w h host es us)
know_cut form w h host us es chosen k = know_begun form w h host us es chosen (size_at w h host es us) refl k

pub known_behind : (w h : ℕ) (host : Option Size) (us : List Update) (later earlier : List Entry) → AllKnow w h host us (later ++ earlier) → AllKnow w h host us earlier
known_behind w h host us [] earlier k = k
known_behind w h host us (Took message ∷ later) earlier k = known_behind w h host us later earlier k
known_behind w h host us (Saw number ∷ later) earlier k = known_behind w h host us later earlier k
known_behind w h host us (MadeCut number ∷ later) earlier k = known_behind w h host us later earlier k
known_behind w h host us (Began area n bytes ∷ later) earlier k = known_behind w h host us later earlier k.1
known_behind w h host us (ToldSize size n bytes ∷ later) earlier k = known_behind w h host us later earlier k

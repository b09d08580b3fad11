-- An answer of a cut that was written whole is one of the screen that was cut, in what is due there.
use Rattle.std.proofs.Common.{◌≡◌, ℕ, zero, suc, ◌<◌, ◌≤◌, Bool, true, false, List, [], ◌∷◌, length, take, Option, Some, None, refl, sym, ap, subst, ◌∙◌, arith, inl, inr}
use Rattle.std.specs.Prelude.{◌&&◌, ◌||◌, not, is_some, unwrap_or}
use Rattle.std.specs.List.{All, range_with_len}
use Rattle.std.proofs.lemmas.Bool.{and_parts, or_cases}
use Rattle.raster.specs.declared.rect.Rect.{Rect}
use Rattle.raster.specs.Screen.{holds, meets, tile_count, tile_rect}
use Rattle.raster.specs.Size.{IsScreenSize}
use Rattle.raster.specs.Update.{Paint, Update, screen}
use Rattle.raster.proofs.Places.{Has, has_holds, holds_has, meets_at, tile_of, tile_of_has, tile_of_there}
use Rattle.viewer_session.specs.declared.form.AnswerForm.{AnswerForm}
use Rattle.tiles.specs.Brings.{BringTheDue, IsPart, some_holds}
use Rattle.tiles.specs.Have.{SentTiles, HaveStands}
use Rattle.reflect_core.specs.declared.cut.Cut as cutting
use Rattle.reflect_core.specs.Source.{IsCutOf, copies_in, marked}
use Rattle.update_encoder.specs.Coming.{shown}
use Rattle.update_encoder.specs.Style.{Style}
use Rattle.zrle_answer.specs.Rectangle.{ZlibStream}
use Rattle.zrle_answer.specs.Answer.{IsAnswer}
use Rattle.zrle_answer.specs.Written.{with_zrle}
use Rattle.zrle_answer.proofs.LookAlike.{answers_show_what_looks_alike}
use Rattle.viewer_session.specs.Chosen.{zrle_style_of}
use Rattle.viewer_session.specs.Record.{Entry, events}
use Rattle.viewer_session.specs.Turn.{all_were_sent, due_tile, passed_at, since_of, still_due, style_of}
use Rattle.viewer_session.proofs.TurnLaws.{all_sent_is, copies_there, marks_still}

-- Bytes are an answer of the copies that are passed on, and of rectangles that bring what is still due in an area, of
-- the screen after these updates.
pub record AnswersOf (form : AnswerForm) (w h : ℕ) (es : List Entry) (us : List Update) (area : Rect) (stream : ZlibStream) (bytes : List ℕ) (after : ZlibStream) : Type 0 where
  pub rectangles : List Rect
  pub brings : BringTheDue w h area (still_due form w h es us area) rectangles
  pub answers : IsAnswer (zrle_style_of form es) (screen us) (passed_at form w h es us area).copies (all_were_sent w h es us area) rectangles stream bytes after

-- What lies in some parts of the screen lies on it.
lies_on : (w h : ℕ) (rs : List Rect) (x y : ℕ) → All (IsPart w h) rs → some_holds rs x y ≡ true → (x < w) × (y < h)
lies_on w h [] x y parts e = absurd cc
lies_on w h (r ∷ rs) x y parts e =
    elim (or_cases (holds r x y) (some_holds rs x y) e) [
      | inl here ↦ (
          let part : IsPart w h r = parts zero r (omega arith) in
          let p : Has r x y = has_holds r x y here in
          (omega (arith, p.right, part.inside.across), omega (arith, p.bottom, part.inside.down)))
      | inr there ↦ lies_on w h rs x y (λ k d lt. parts (suc k) d (omega arith)) there
    ]

-- A test of what meets an area makes no difference where the area is met.
met_due : (a l m d : Bool) → (a ≡ true → m ≡ true) → (a && (l && (m && d))) ≡ (a && (l && d))
met_due true l m d f = ap (λ b. l && (b && d)) (f refl)
met_due false l m d f = refl

module _ (form : AnswerForm) (known : List Update) (n : ℕ) (area : Rect) (have : SentTiles) (cut : cutting.Cut) (es : List Entry) (is : IsCutOf known n area have (since_of form have.width have.height es) cut) (ew : have.width ≡ cut.width) (eh : have.height ≡ cut.height) (stood : HaveStands have (events have.width have.height es)) where
  abbrev w : ℕ
  w = have.width

  abbrev h : ℕ
  h = have.height

  abbrev us : List Update
  us = take n known

  abbrev copies : List Paint
  copies = (passed_at form w h es us area).copies

  brings_due : (rs : List Rect) → BringTheDue w h area (marked cut) rs → BringTheDue w h area (still_due form w h es us area) rs
  brings_due rs k =
      record {
        exactly = λ t x y lt e.
            k.exactly t x y lt e
            ∙ (ap (λ b. holds area x y && b) (marks_still form known n area have cut es is stood t lt)
            ∙ met_due (holds area x y) ((passed_at form w h es us area).lacks t) (meets area (tile_rect w h t)) (due_tile w h es us t) (λ here. meets_at area (tile_rect w h t) x y (has_holds area x y here) (has_holds (tile_rect w h t) x y e)));
        parts = k.parts;
        few = k.few;
      }

  looks_alike : (rs : List Rect) → BringTheDue w h area (marked cut) rs → (x y : ℕ) → some_holds rs x y ≡ true → shown cut x y ≡ screen us x y
  looks_alike rs k x y e =
      let on : (x < w) × (y < h) = lies_on w h rs x y k.parts e in
      let t : ℕ = tile_of w x y in
      let there : t < tile_count w h = tile_of_there w h x y on.0 on.1 in
      let tile : holds (tile_rect w h t) x y ≡ true = holds_has (tile_rect w h t) x y (tile_of_has w h x y on.0 on.1) in
      let both = and_parts (holds area x y) (marked cut t) (sym (k.exactly t x y there tile) ∙ e) in
      is.colours t x y there (sym (ap (λ (o : Option Bool). unwrap_or o false) (is.due t there)) ∙ both.1) both.0 tile

  answers_here : (style : Style) (rs : List Rect) (stream after : ZlibStream) (bytes : List ℕ) → style ≡ style_of form es → BringTheDue cut.width cut.height area (marked cut) rs
      → IsAnswer (with_zrle style) (shown cut) (copies_in cut) cut.all_were_sent rs stream bytes after → AnswersOf form w h es us area stream bytes after
  answers_here style rs stream after bytes same covers answers =
      let here : BringTheDue w h area (marked cut) rs = subst (λ v. BringTheDue v h area (marked cut) rs) (sym ew) (subst (λ u. BringTheDue cut.width u area (marked cut) rs) (sym eh) covers) in
      record {
        rectangles = rs;
        brings = brings_due rs here;
        answers =
            subst (λ (cs : List Paint). IsAnswer (zrle_style_of form es) (screen us) cs (all_were_sent w h es us area) rs stream bytes after) (copies_there form known n area have cut es is stood)
            (subst (λ b. IsAnswer (zrle_style_of form es) (screen us) (copies_in cut) b rs stream bytes after) (all_sent_is form known n area have cut es is stood)
            (answers_show_what_looks_alike (zrle_style_of form es) (shown cut) (screen us) (copies_in cut) cut.all_were_sent rs stream after bytes (looks_alike rs here)
            (subst (λ (t : Style). IsAnswer (with_zrle t) (shown cut) (copies_in cut) cut.all_were_sent rs stream bytes after) same answers)));
      }

-- The same over a screen of w by h.
pub answers_on : (form : AnswerForm) (w h : ℕ) (known : List Update) (n : ℕ) (area : Rect) (have : SentTiles) (cut : cutting.Cut) (es : List Entry) (style : Style) (rs : List Rect) (stream after : ZlibStream) (bytes : List ℕ)
    → have.width ≡ w → have.height ≡ h → IsCutOf known n area have (since_of form w h es) cut → have.width ≡ cut.width → have.height ≡ cut.height → HaveStands have (events w h es) → style ≡ style_of form es
    → BringTheDue cut.width cut.height area (marked cut) rs → IsAnswer (with_zrle style) (shown cut) (copies_in cut) cut.all_were_sent rs stream bytes after → AnswersOf form w h es (take n known) area stream bytes after
answers_on form w h known n area have cut es style rs stream after bytes v u is ew eh stood same covers answers =
    let Here : ℕ → ℕ → Type 0 = λ x y. IsCutOf known n area have (since_of form x y es) cut → HaveStands have (events x y es) → AnswersOf form x y es (take n known) area stream bytes after in
    let here : Here have.width have.height = λ c k. answers_here form known n area have cut es c ew eh k style rs stream after bytes same covers answers in
    subst (λ y. Here w y) u (subst (λ x. Here x have.height) v here) is stood

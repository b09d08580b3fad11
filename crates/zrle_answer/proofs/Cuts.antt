-- An answer of a cut is one of the screen that was cut.
use Rattle.std.proofs.Common.{◌≡◌, ℕ, suc, ◌<◌, Bool, true, false, List, [], ◌∷◌, take, refl, sym, ◌∙◌, arith, inl, inr}
use Rattle.std.specs.Prelude.{◌&&◌, Option}
use Rattle.std.specs.List.{All}
use Rattle.std.proofs.lemmas.Bool.{and_parts, or_cases}
use Rattle.raster.specs.declared.rect.Rect.{Rect}
use Rattle.raster.specs.Screen.{holds, tile_count, tile_rect}
use Rattle.raster.specs.Update.{Update, screen}
use Rattle.raster.proofs.Places.{Has, has_holds, holds_has, meets_at, tile_of, tile_of_has, tile_of_there}
use Rattle.reflect_core.specs.declared.cut.Cut.{Cut}
use Rattle.reflect_core.specs.Source.{IsCutOf, copies_in, marked}
use Rattle.tiles.specs.Brings.{BringTheDue, IsPart, some_holds}
use Rattle.tiles.specs.Have.{SentTiles}
use Rattle.update_encoder.specs.Coming.{shown}
use Rattle.update_encoder.specs.Style.{Style}
use Rattle.update_encoder.specs.Written.{is_still_due_of}
use Rattle.update_encoder.proofs.StillDue.{due_where_met, shown_as_it_was}
use Rattle.zrle_answer.specs.Written.{CutsAreAnswered, IsWhole, IsWholeOf, with_zrle}
use Rattle.zrle_answer.proofs.LookAlike.{answers_show_what_looks_alike}

-- What lies in some part of a screen lies on the screen.
some_inside : (w h : ℕ) (rs : List Rect) (x y : ℕ) → All (IsPart w h) rs → some_holds rs x y ≡ true → (x < w) × (y < h)
some_inside w h [] x y parts e = absurd cc
some_inside w h (r ∷ rs) x y parts e =
    elim (or_cases (holds r x y) (some_holds rs x y) e) [
      | inl here ↦ (
          let part : IsPart w h r = parts 0 r (omega arith) in
          let has : Has r x y = has_holds r x y here in (omega (arith, has.right, part.inside.across), omega (arith, has.bottom, part.inside.down))
          )
      | inr there ↦ some_inside w h rs x y (λ k d lt. parts (suc k) d (omega (arith, lt))) there
    ]

module _ (us : List Update) (n : ℕ) (area : Rect) (have : SentTiles) (since : Option ℕ) (cut : Cut) (is : IsCutOf us n area have since cut) (wide : have.width ≡ cut.width) (high : have.height ≡ cut.height) where
  abbrev w : ℕ
  w = cut.width

  abbrev h : ℕ
  h = cut.height

  abbrev seen : List Update
  seen = take n us

  -- what was still due
  abbrev still : ℕ → Bool
  still t = is_still_due_of have area since seen t

  -- At a position of the area a tile is marked as it was due.
  due_alike : (t x y : ℕ) → t < tile_count w h → holds (tile_rect w h t) x y ≡ true → (b : Bool) → holds area x y ≡ b → (b && marked cut t) ≡ (b && still t)
  due_alike t x y lt tile true e =
      due_where_met us n area have since cut is wide high t lt (meets_at area (tile_rect w h t) x y (has_holds area x y e) (has_holds (tile_rect w h t) x y tile))
  due_alike t x y lt tile false e = refl

  shows_alike : (rs : List Rect) → BringTheDue w h area (marked cut) rs → (x y : ℕ) → some_holds rs x y ≡ true → shown cut x y ≡ screen seen x y
  shows_alike rs brings x y e =
      let inside = some_inside w h rs x y brings.parts e in
      let t : ℕ = tile_of w x y in
      let there : t < tile_count w h = tile_of_there w h x y inside.0 inside.1 in
      let tile : holds (tile_rect w h t) x y ≡ true = holds_has (tile_rect w h t) x y (tile_of_has w h x y inside.0 inside.1) in
      let both = and_parts (holds area x y) (marked cut t) (sym (brings.exactly t x y there tile) ∙ e) in
      shown_as_it_was us n area have since cut is wide high t x y there tile both.0 both.1

  pub answered : (style : Style) (begun now : Bool) (bytes : List ℕ) → IsWholeOf style cut area begun now bytes → IsWhole style w h area (screen seen) (copies_in cut) (is_still_due_of have area since seen) cut.all_were_sent begun now bytes
  answered style begun now bytes whole =
      record {
        rectangles = whole.rectangles;
        brings = record {
          exactly = λ t x y lt tile. whole.brings.exactly t x y lt tile ∙ due_alike t x y lt tile (holds area x y) refl;
          parts = whole.brings.parts;
          few = whole.brings.few;
        };
        answers = λ before e.
            (let a = whole.answers before e in (
              a.0,
              answers_show_what_looks_alike (with_zrle style) (shown cut) (screen seen) (copies_in cut) cut.all_were_sent whole.rectangles before a.0 bytes (shows_alike whole.rectangles whole.brings) a.1,
              a.2,
            ));
      }

pub cuts_are_answered : CutsAreAnswered
cuts_are_answered us n area have since cut style begun now bytes is wide high size on whole = answered us n area have since cut is wide high style begun now bytes whole

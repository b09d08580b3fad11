-- A cut marks the tiles of its area that were still due, and shows them as they were.
use Rattle.std.proofs.Common.{◌≡◌, ℕ, ◌<◌, Bool, true, false, List, take, Option, ap, sym, ◌∙◌, arith}
use Rattle.std.specs.Prelude.{◌&&◌, unwrap_or}
use Rattle.raster.specs.declared.rect.Rect.{Rect}
use Rattle.raster.specs.Screen.{holds, meets, tile_count, tile_rect}
use Rattle.raster.specs.Update.{Update, screen}
use Rattle.reflect_core.specs.declared.cut.Cut.{Cut}
use Rattle.reflect_core.specs.Source.{IsCutOf, marked, passed_to, still_due_in}
use Rattle.tiles.specs.Have.{SentTiles, sent_at}
use Rattle.tiles.specs.Touched.{is_due_since}
use Rattle.update_encoder.specs.Coming.{shown}
use Rattle.update_encoder.specs.Written.{is_still_due_of}

module _ (us : List Update) (n : ℕ) (area : Rect) (have : SentTiles) (since : Option ℕ) (cut : Cut) (is : IsCutOf us n area have since cut) (wide : have.width ≡ cut.width) (high : have.height ≡ cut.height) where
  abbrev w : ℕ
  w = cut.width

  abbrev h : ℕ
  h = cut.height

  abbrev seen : List Update
  seen = take n us

  rect_is : (t : ℕ) → tile_rect have.width have.height t ≡ tile_rect w h t
  rect_is t = ap (λ a. tile_rect a have.height t) wide ∙ ap (λ a. tile_rect w a t) high

  count_is : tile_count have.width have.height ≡ tile_count w h
  count_is = ap (λ a. tile_count a have.height) wide ∙ ap (λ a. tile_count w a) high

  marked_is : (t : ℕ) → t < tile_count w h → marked cut t ≡ still_due_in have area since seen t
  marked_is t lt = ap (λ (o : Option Bool). unwrap_or o false) (is.due t (omega (arith, count_is, lt)))

  -- Where the area meets a tile, it is marked as it was due.
  pub due_where_met : (t : ℕ) → t < tile_count w h → meets area (tile_rect w h t) ≡ true → marked cut t ≡ is_still_due_of have area since seen t
  due_where_met t lt met =
      let lacked : Bool = (passed_to have area since seen).lacks t in
      let due : Bool = is_due_since (tile_rect have.width have.height t) (sent_at have t) seen in
      marked_is t lt ∙ (ap (λ (r : Rect). lacked && (meets area r && due)) (rect_is t) ∙ ap (λ b. lacked && (b && due)) met)

  -- In a tile that is marked the cut shows its part of the area as the screen had it.
  pub shown_as_it_was : (t x y : ℕ) → t < tile_count w h → holds (tile_rect w h t) x y ≡ true → holds area x y ≡ true → marked cut t ≡ true → shown cut x y ≡ screen seen x y
  shown_as_it_was t x y lt tile inside mark =
      is.colours t x y (omega (arith, count_is, lt)) (sym (marked_is t lt) ∙ mark) inside (ap (λ (r : Rect). holds r x y) (rect_is t) ∙ tile)

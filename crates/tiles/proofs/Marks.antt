-- How tiles are marked, row by row. `Have` changes an area's tiles so, and owes each tile by itself.
use Rattle.std.proofs.Common.{◌≡◌, ℕ, ◌+◌, ◌*◌, ◌/◌, ◌%◌, ◌<◌, Bool, List, Option, Some, ap, sym, ◌∙◌, arith}
use Rattle.std.specs.Prelude.{slice_get, if◌then◌else◌}
use Rattle.std.proofs.lemmas.Bool.Decides.{nat_tests}
use Rattle.std.proofs.lemmas.Nat.{div-add-mod'}
use Rattle.raster.specs.declared.rect.Rect.{Rect}
use Rattle.raster.specs.Screen.{fill, holds, tiles_across, tile_count}
use Rattle.tiles.proofs.Ranges.{IsTile, tile_is}

-- Of this many tiles those that a test lets through have this value, and all others what they had.
pub record IsMarked (passes : ℕ → Bool) (value : Option ℕ) (n : ℕ) (old new : List (Option ℕ)) : Type 0 where
  pub each : (t : ℕ) → t < n → slice_get new t ≡ (if passes t then Some value else slice_get old t)

-- ---- row after row

-- Values that stand row after row, each row w long: those of a rectangle are this one, all others what they were.
abbrev pub IsFilled : {A : Type 0} → ℕ → ℕ → Rect → A → List A → List A → Type 0
IsFilled w h r v old new = (x y : ℕ) → x < w → y < h → slice_get new (y * w + x) ≡ fill r (Some v) (λ i j. slice_get old (j * w + i)) x y

pub none_filled : {A : Type 0} (w h x0 y0 n : ℕ) (v : A) (xs : List A) → IsFilled w h (record { x = x0; y = y0; w = n; h = 0 }) v xs xs
none_filled w h x0 y0 n v xs x y lx ly = grind (arith, nat_tests)

-- ---- tile after tile

-- A rectangle of tiles was filled, which has just the tiles that a test lets through.
pub marked_by_rect : (w h : ℕ) (tiles : Rect) (passes : ℕ → Bool) (value : Option ℕ) (old new : List (Option ℕ)) → 0 < w
    → IsFilled (tiles_across w) (tiles_across h) tiles value old new
    → ((t : ℕ) → t < tile_count w h → holds tiles (t % tiles_across w) (t / tiles_across w) ≡ passes t)
    → IsMarked passes value (tile_count w h) old new
marked_by_rect w h tiles passes value old new lw filled same =
    record {
      each = λ t lt.
          let is : IsTile w h t = tile_is w h t lw lt in
          let place : t / tiles_across w * tiles_across w + t % tiles_across w ≡ t = div-add-mod' t (tiles_across w) in
          ap (λ k. slice_get new k) (sym place)
          ∙ (filled (t % tiles_across w) (t / tiles_across w) is.column is.row
          ∙ (ap (λ b. if b then Some value else slice_get old (t / tiles_across w * tiles_across w + t % tiles_across w)) (same t lt)
          ∙ ap (λ k. if passes t then Some value else slice_get old k) place));
    }

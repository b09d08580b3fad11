-- The tiles that an area meets or holds, column by column and row by row. Marks and stamps are written by such ranges.
use Rattle.std.proofs.Common.{◌≡◌, ℕ, ◌+◌, ◌*◌, ◌-◌, ◌/◌, ◌%◌, ◌<◌, ◌≤◌, Bool, true, false, Option, Some, None, refl, sym, arith}
use Rattle.std.specs.Prelude.{min, max, unwrap_or, ◌↔◌}
use Rattle.std.proofs.lemmas.Bool.Decides.{nat_tests}
use Rattle.std.proofs.Math.Nat.{div-lt_iff_lt-mul, mod-lt}
use Rattle.raster.specs.declared.rect.Rect.{Rect}
use Rattle.raster.specs.declared.size.Size.{Size}
use Rattle.raster.specs.Screen.{common, holds, lies_in, meets, tiles_across, tile_count, tile_rect, whole_screen}
use Rattle.raster.proofs.Places.{Has, has_holds, holds_has}
use Rattle.tiles.specs.Touched.{known_part}
use Rattle.raster.specs.declared.tile.TheConstants.{TILE_SIDE}

-- The column and the row of a tile.
pub record IsTile (w h t : ℕ) : Type 0 where
  pub column : t % tiles_across w < tiles_across w
  pub row : t / tiles_across w < tiles_across h

pub tile_is : (w h t : ℕ) → 0 < w → t < tile_count w h → IsTile w h t
tile_is w h t lw lt =
    let some : 0 < tiles_across w = omega arith in
    let turned : t < tiles_across h * tiles_across w = omega arith in
    record { column = mod-lt t some; row = (div-lt_iff_lt-mul some).1 turned }

-- Two tests of which each lets through what the other does.
pub same_test : (a b : Bool) → (a ≡ true → b ≡ true) → (b ≡ true → a ≡ true) → a ≡ b
same_test true b f g = sym (f refl)
same_test false true f g = g refl
same_test false false f g = refl

meets_is : (a r : Rect) → max a.x r.x < min (a.x + a.w) (r.x + r.w) → max a.y r.y < min (a.y + a.h) (r.y + r.h) → meets a r ≡ true
meets_is a r across down = grind (arith, nat_tests, across, down)

meets_across : (a r : Rect) → meets a r ≡ true → max a.x r.x < min (a.x + a.w) (r.x + r.w)
meets_across a r e = grind (arith, nat_tests)

meets_down : (a r : Rect) → meets a r ≡ true → max a.y r.y < min (a.y + a.h) (r.y + r.h)
meets_down a r e = grind (arith, nat_tests)

-- A rectangle of tiles that has a tile just where both ranges meet it has those that the area meets.
pub met_by_ranges : (w h : ℕ) (area tiles : Rect) (t : ℕ) → 0 < w → t < tile_count w h
    → ((k : ℕ) → k < tiles_across w → ((tiles.x ≤ k) × (k < tiles.x + tiles.w)) ↔ (max area.x (k * TILE_SIDE) < min (area.x + area.w) (k * TILE_SIDE + min TILE_SIDE (w - k * TILE_SIDE))))
    → ((k : ℕ) → k < tiles_across h → ((tiles.y ≤ k) × (k < tiles.y + tiles.h)) ↔ (max area.y (k * TILE_SIDE) < min (area.y + area.h) (k * TILE_SIDE + min TILE_SIDE (h - k * TILE_SIDE))))
    → holds tiles (t % tiles_across w) (t / tiles_across w) ≡ meets area (tile_rect w h t)
met_by_ranges w h area tiles t lw lt across down =
    let is = tile_is w h t lw lt in
    let column = across (t % tiles_across w) is.column in
    let row = down (t / tiles_across w) is.row in
    same_test _ _
    (λ e. let has : Has tiles (t % tiles_across w) (t / tiles_across w) = has_holds tiles _ _ e in meets_is area (tile_rect w h t) (column.0 (has.left, has.right)) (row.0 (has.top, has.bottom)))
    (λ e.
    let in_column = column.1 (meets_across area (tile_rect w h t) e) in
    let in_row = row.1 (meets_down area (tile_rect w h t) e) in
    holds_has tiles _ _ (record { left = in_column.0; right = in_column.1; top = in_row.0; bottom = in_row.1 }))

lies_is : (r a : Rect) → (a.x ≤ r.x) × (r.x + r.w ≤ a.x + a.w) → (a.y ≤ r.y) × (r.y + r.h ≤ a.y + a.h) → lies_in r a ≡ true
lies_is r a across down =
    let left = across.0 in
    let right = across.1 in
    let top = down.0 in
    let bottom = down.1 in
    grind (arith, nat_tests, left, right, top, bottom)

lies_across : (r a : Rect) → lies_in r a ≡ true → (a.x ≤ r.x) × (r.x + r.w ≤ a.x + a.w)
lies_across r a e = (grind (arith, nat_tests), grind (arith, nat_tests))

lies_down : (r a : Rect) → lies_in r a ≡ true → (a.y ≤ r.y) × (r.y + r.h ≤ a.y + a.h)
lies_down r a e = (grind (arith, nat_tests), grind (arith, nat_tests))

-- And one that has a tile just where its known part lies in both ranges has those whose known part lies in the area.
pub inside_by_ranges : (w h u v : ℕ) (area tiles : Rect) (t : ℕ) → 0 < w → t < tile_count w h
    → ((k : ℕ) → k < tiles_across w → ((tiles.x ≤ k) × (k < tiles.x + tiles.w)) ↔ ((area.x ≤ k * TILE_SIDE) × (k * TILE_SIDE + (min (k * TILE_SIDE + min TILE_SIDE (w - k * TILE_SIDE)) u - k * TILE_SIDE) ≤ area.x + area.w)))
    → ((k : ℕ) → k < tiles_across h → ((tiles.y ≤ k) × (k < tiles.y + tiles.h)) ↔ ((area.y ≤ k * TILE_SIDE) × (k * TILE_SIDE + (min (k * TILE_SIDE + min TILE_SIDE (h - k * TILE_SIDE)) v - k * TILE_SIDE) ≤ area.y + area.h)))
    → holds tiles (t % tiles_across w) (t / tiles_across w) ≡ lies_in (common (tile_rect w h t) (whole_screen u v)) area
inside_by_ranges w h u v area tiles t lw lt across down =
    let is = tile_is w h t lw lt in
    let part : Rect = common (tile_rect w h t) (whole_screen u v) in
    let column = across (t % tiles_across w) is.column in
    let row = down (t / tiles_across w) is.row in
    same_test _ _
    (λ e.
    let has : Has tiles (t % tiles_across w) (t / tiles_across w) = has_holds tiles _ _ e in
    let in_columns = column.0 (has.left, has.right) in
    let in_rows = row.0 (has.top, has.bottom) in
    lies_is part area (omega (arith, in_columns.0), omega (arith, in_columns.1)) (omega (arith, in_rows.0), omega (arith, in_rows.1)))
    (λ e.
    let wide = lies_across part area e in
    let high = lies_down part area e in
    let in_column = column.1 (omega (arith, wide.0), omega (arith, wide.1)) in
    let in_row = row.1 (omega (arith, high.0), omega (arith, high.1)) in
    holds_has tiles _ _ (record { left = in_column.0; right = in_column.1; top = in_row.0; bottom = in_row.1 }))

-- What is known of the screen, as the code has it at hand.
pub known_part_is : (told : Option Size) → whole_screen (unwrap_or told (record { width = 65536; height = 65536 })).width (unwrap_or told (record { width = 65536; height = 65536 })).height ≡ known_part told
known_part_is None = refl
known_part_is (Some size) = refl

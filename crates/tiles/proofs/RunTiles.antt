-- What callers of a walk need as they go from run to run: the walk stays over its area, the tiles of a run lie in the
-- run, and where a part of one screen is laid over another, the one shows.
use Rattle.std.proofs.Common.{◌≡◌, ℕ, ◌+◌, ◌-◌, ◌*◌, ◌/◌, ◌%◌, ◌<◌, ◌≤◌, List, ap, ◌∙◌, arith}
use Rattle.std.specs.Prelude.{if◌then◌else◌}
use Rattle.std.proofs.lemmas.Nat.{div-add-mod'}
use Rattle.raster.specs.declared.rect.Rect.{Rect}
use Rattle.raster.specs.Screen.{lay, part_of, tile_rect, tiles_across, value_at}
use Rattle.raster.proofs.Places.{Has, holds_has}
use Rattle.tiles.specs.Walk.{IsSameWalk, Walking, tiles_rect}
use Rattle.tiles.proofs.FoundRuns.{IsPlace, place_of}

-- A walk over an area of a screen, at this tile.
abbrev pub walk_at : ℕ → ℕ → Rect → ℕ → Walking
walk_at w h area next = record { width = w; height = h; area = area; next = next }

-- After a step it is a walk over that area still.
pub walk_goes_on : (w h : ℕ) (area : Rect) (old new : Walking) → old ≡ walk_at w h area old.next → IsSameWalk old new → new ≡ walk_at w h area new.next
walk_goes_on w h area old new is same =
    let wide : new.width ≡ w = same.width ∙ ap (λ (v : Walking). v.width) is in
    let high : new.height ≡ h = same.height ∙ ap (λ (v : Walking). v.height) is in
    let on : new.area ≡ area = same.area ∙ ap (λ (v : Walking). v.area) is in
    (λ i. record { width = wide i; height = high i; area = on i; next = new.next })

-- A position of one of a run's tiles lies in the run.
pub tile_in_run : (w h first count t x y : ℕ) → first % tiles_across w + count ≤ tiles_across w → first ≤ t → t < first + count → Has (tile_rect w h t) x y → Has (tiles_rect w first count) x y
tile_in_run w h first count t x y in_row lo hi has =
    let across : ℕ = tiles_across w in
    let row : ℕ = first / across in
    let place : row * across + first % across ≡ first = div-add-mod' first across in
    let is : IsPlace row (t - row * across) across t = place_of row across t (omega (arith, place)) (omega (arith, place, in_row)) in
    let column : t % across ≡ t - row * across = is.column_is in
    let line : t / across ≡ row = is.row_is in
    record {
      left = (let e = has.left in omega (arith, e, column, place));
      right = (let e = has.right in omega (arith, e, column, place));
      top = (let e = has.top in omega (arith, e, line));
      bottom = (let e = has.bottom in omega (arith, e, line));
    }

-- A position of the part that was laid shows what was laid.
pub lay_in : (r : Rect) (w : ℕ) (over under : List ℕ) (x y : ℕ) → Has r x y → lay r (part_of r (value_at w over)) (value_at w under) x y ≡ value_at w over x y
lay_in r w over under x y has =
    let across : r.x + (x - r.x) ≡ x = omega (arith, has.left) in
    let down : r.y + (y - r.y) ≡ y = omega (arith, has.top) in
    ap (λ b. if b then value_at w over (r.x + (x - r.x)) (r.y + (y - r.y)) else value_at w under x y) (holds_has r x y has) ∙ (λ i. value_at w over (across i) (down i))

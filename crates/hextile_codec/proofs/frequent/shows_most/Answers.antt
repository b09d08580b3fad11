use Rattle.std.proofs.Common.{◌≡◌, ℕ, List, length, take, get_or, ◌++◌, sym, ap, ◌∙◌, ◌+◌, ◌*◌, ◌<◌, ◌≤◌, length-append, arith}
use Rattle.std.specs.Prelude.{filter, ◌==◌}
use Rattle.std.proofs.lemmas.Bool.{leb-true}
use Rattle.std.proofs.lemmas.List.Elements.{filter-append}
use Rattle.raster.specs.declared.rect.Rect.{Rect}
use Rattle.raster.specs.Screen.{Canvas, value_at, part_of, values_of}
use Rattle.raster.proofs.Places.{values_at, length_values}
use Rattle.joined_runs.specs.Joined.{count_of, most_frequent}
use Rattle.hextile_codec.proofs.MostFound.{one_is_best, half, best_is}
use Rattle.hextile_codec.proofs.TilePixels.{row_more, all_rows}
use Rattle.hextile_codec.proofs.frequent.shows_most.Goals as goal

pub loop-y-preserved : goal.loop-y-preserved
loop-y-preserved c =
    let tile : Rect = c.args.tile.now in
    let canvas : Canvas = part_of tile (value_at c.args.w c.args.values.now) in
    let y : ℕ = c.loop-y.y in
    let v : ℕ = c.args.first in
    let row : List ℕ = c.row_of.result.now in
    let before : List ℕ = take (y * tile.w) (values_of tile.w tile.h canvas) in
    let more : take ((y + 1) * tile.w) (values_of tile.w tile.h canvas) ≡ before ++ row = row_more canvas tile.w tile.h y row c.row_of.ensures.len c.row_of.ensures.values c.loop-y-test.true in
    let parts = filter-append (λ u. u == v) before row in
    record {
      few = omega (arith, c.loop-y.invariant.few, c.count_in_row-shown.ensures.few);
      count = omega (arith, c.loop-y.invariant.count, c.count_in_row-shown.ensures.count, ap (λ xs. count_of xs v) more, ap length parts, length-append (filter (λ u. u == v) before) (filter (λ u. u == v) row));
    }

-- The first value stands in front, and half of them are it.
first_is_most : (values : List ℕ) (first shown : ℕ) → 0 < length values → get_or values 0 0 ≡ first → shown ≡ count_of values first → length values ≤ 2 * shown → first ≡ most_frequent values
first_is_most values first shown some is count le =
    let best = rw is at (one_is_best values some) in
    best_is values 1 first (count_of values first) best (half values 1 first (count_of values first) best (omega (arith, count, le)))

pub returns : goal.returns
returns c = λ many.
    let tile : Rect = c.args.tile.now in
    let canvas : Canvas = part_of tile (value_at c.args.w c.args.values.now) in
    let all : List ℕ = values_of tile.w tile.h canvas in
    let wide : 0 < tile.w = omega (arith, c.requires.wide) in
    let long : length all ≡ 16 * tile.h = length_values tile.w tile.h canvas ∙ ap (λ n. n * tile.h) c.requires.wide in
    let zero : 0 * tile.w + 0 ≡ 0 = omega arith in
    let front : get_or all 0 0 ≡ canvas 0 0 = ap (λ k. get_or all k 0) (sym zero) ∙ values_at tile.w tile.h canvas 0 0 wide c.requires.h_some in
    let whole : take (c.loop-y.y * tile.w) all ≡ all = all_rows canvas tile.w tile.h c.loop-y.y (omega (arith, c.loop-y-test.false)) in
    let enough : tile.h * 8 ≤ c.loop-y.shown = leb-true (tile.h * 8) c.loop-y.shown many in
    first_is_most all c.args.first c.loop-y.shown (omega (arith, long, c.requires.h_some)) (front ∙ sym c.requires.first) (c.loop-y.invariant.count ∙ ap (λ xs. count_of xs c.args.first) whole) (omega (arith, long, enough))

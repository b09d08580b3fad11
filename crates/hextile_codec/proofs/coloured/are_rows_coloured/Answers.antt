use Rattle.std.proofs.Common.{◌≡◌, ℕ, ◌<◌, ◌≤◌, ◌∙◌, length, List, slice_index, bit_or, take, true, nat_lt, below_more, sym, arith}
use Rattle.std.specs.List.{list_all}
use Rattle.std.proofs.lemmas.Bool.{ltb-true}
use Rattle.std.proofs.lemmas.List.{take_all}
use Rattle.std.proofs.lemmas.Nat.{le_or_l, le_or_r}
use Rattle.std.proofs.lemmas.Simd.{length-zip2, get_or-zip2}
use lib.Lanes.{zip2}
use Rattle.raster.specs.Screen.{Canvas, value_at, part_of}
use Rattle.hextile_codec.proofs.RowRuns.{passes_at}
use Rattle.hextile_codec.proofs.coloured.are_rows_coloured.Goals as goal

pub loop-y-preserved : goal.loop-y-preserved
loop-y-preserved c =
    let shown : Canvas = part_of c.args.tile.now (value_at c.args.w c.args.numbers.now) in
    let row : List ℕ = c.row_of.result.now in
    let bits : List ℕ = c.loop-y.bits in
    let long : length row ≡ 16 = c.row_of.ensures.len ∙ c.requires.wide in
    let whole : take 16 row ≡ row = take_all 16 row (omega (arith, long)) in
    let same : length bits ≡ length row = c.loop-y.invariant.count ∙ sym long in
    let at : (x : ℕ) → x < 16 → slice_index (zip2 bit_or bits row) x ≡ bit_or (slice_index bits x) (slice_index row x) =
    λ x lt. get_or-zip2 bit_or bits row x 0 0 0 (omega (arith, c.loop-y.invariant.count, lt)) (omega (arith, long, lt)) in
    rw whole (record {
      count = length-zip2 bit_or bits row same ∙ c.loop-y.invariant.count;
      above = λ x y lt up.
          let before : (k : ℕ) → k < c.loop-y.y → shown x k ≤ slice_index (zip2 bit_or bits row) x =
          λ k down. omega (arith, at x lt, le_or_l (slice_index bits x) (slice_index row x), c.loop-y.invariant.above x k lt down) in
          let last : shown x c.loop-y.y ≤ slice_index (zip2 bit_or bits row) x =
          omega (arith, at x lt, le_or_r (slice_index bits x) (slice_index row x), c.row_of.ensures.values x (omega (arith, lt, c.requires.wide))) in
          below_more (λ k. shown x k ≤ slice_index (zip2 bit_or bits row) x) c.loop-y.y before last y up;
    })

pub returns : goal.returns
returns c = λ yes x y lt down.
    let all : list_all (λ v. nat_lt v 16777216) c.loop-y.bits ≡ true = sym c.are_colours.ensures ∙ yes in
    let small = ltb-true (slice_index c.loop-y.bits x) 16777216 (passes_at (λ v. nat_lt v 16777216) c.loop-y.bits x all (omega (arith, lt, c.loop-y.invariant.count))) in
    omega (arith, small, c.loop-y.invariant.above x y lt (omega (arith, down, c.loop-y-test.false)))

use Rattle.std.proofs.Common.{◌≡◌, ℕ, ◌+◌, ◌-◌, ◌*◌, ◌<◌, List, take, drop, get_or, length, ap, ◌∙◌, arith}
use Rattle.raster.specs.Screen.{part_of, value_at}
use Rattle.raster.proofs.Rows.{row_fits, lay_more, part_row, part_len, part_at}
use Rattle.painter.proofs.copying.copy_area.Goals as goal

-- What a slice of this many values is.
slice_is : (values : List ℕ) (start n : ℕ) → take (start + n - start) (drop start values) ≡ part_row values start n
slice_is values start n = let e : start + n - start ≡ n = omega arith in ap (λ k. take k (drop start values)) e

pub lay_part-requires : goal.lay_part-requires
lay_part-requires c =
    let down : c.args.area.now.y + c.loop-row.row < c.args.height = omega (arith, c.requires.within.down, c.loop-row-test.true) in
    let start : ℕ = (c.args.area.now.y + c.loop-row.row) * c.args.width + c.args.area.now.x in
    let len = ap length (slice_is c.args.from.now start c.args.area.now.w) ∙ part_len c.args.from.now c.args.width c.args.height c.args.area.now.x (c.args.area.now.y + c.loop-row.row) c.args.area.now.w c.requires.from down c.requires.within.across in
    omega (arith, len, c.loop-row.invariant.size, row_fits c.args.width c.args.height (c.args.area.now.y + c.loop-row.row) c.args.area.now.x c.args.area.now.w down c.requires.within.across)

pub loop-row-preserved : goal.loop-row-preserved
loop-row-preserved c =
    let x : ℕ = c.args.area.now.x in
    let n : ℕ = c.args.area.now.w in
    let row : ℕ = c.args.area.now.y + c.loop-row.row in
    let start : ℕ = row * c.args.width + x in
    let down : row < c.args.height = omega (arith, c.requires.within.down, c.loop-row-test.true) in
    let is = slice_is c.args.from.now start n in
    let len = ap length is ∙ part_len c.args.from.now c.args.width c.args.height x row n c.requires.from down c.requires.within.across in
    record {
      size = omega (arith, c.lay_part.auto.values, c.loop-row.invariant.size);
      shows = lay_more c.args.width c.args.height x c.args.area.now.y n c.loop-row.row (part_of c.args.area.now (value_at c.args.width c.args.from.now)) (value_at c.args.width c.args.into.now) c.loop-row.into c.lay_part.new.values
          (part_row c.args.from.now start n) c.requires.within.across down c.loop-row.invariant.shows
          (λ k lt. c.lay_part.ensures.inside k (omega (arith, len, lt)) ∙ ap (λ (l : List ℕ). get_or l k 0) is)
          (λ k lt. part_at c.args.from.now c.args.width x row n k lt)
          c.lay_part.ensures.outside
          (λ k le. c.lay_part.ensures.past k (omega (arith, len, le)));
    }

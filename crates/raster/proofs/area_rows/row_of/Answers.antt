use Rattle.std.proofs.Common.{◌≡◌, ℕ, ◌+◌, ◌-◌, ◌*◌, length, take, drop, ap, ◌∙◌, arith}
use Rattle.std.proofs.lemmas.List.{length-take, length-drop}
use Rattle.raster.proofs.PixelRows.{few_positions, part_is_row, row_within}
use Rattle.raster.proofs.area_rows.row_of.Goals as goal

pub overflow_mul-from : goal.overflow_mul-from
overflow_mul-from c =
    let a = c.args in
    let row = row_within a.area.now.x a.area.now.y a.row a.area.now.w a.width a.height (length a.colours.now) c.requires.size c.requires.within.across (omega (arith, c.requires.row, c.requires.within.down)) in
    omega (arith, row, c.requires.size, few_positions a.width a.height c.requires.small.0 c.requires.small.1)

pub overflow_add-from : goal.overflow_add-from
overflow_add-from c = omega (arith, c.requires.row, c.requires.within.down, c.requires.small.1)

pub overflow_add-from-2 : goal.overflow_add-from-2
overflow_add-from-2 c =
    let a = c.args in
    let row = row_within a.area.now.x a.area.now.y a.row a.area.now.w a.width a.height (length a.colours.now) c.requires.size c.requires.within.across (omega (arith, c.requires.row, c.requires.within.down)) in
    omega (arith, row, c.requires.size, few_positions a.width a.height c.requires.small.0 c.requires.small.1)

pub overflow_add-result : goal.overflow_add-result
overflow_add-result c =
    let a = c.args in
    let row = row_within a.area.now.x a.area.now.y a.row a.area.now.w a.width a.height (length a.colours.now) c.requires.size c.requires.within.across (omega (arith, c.requires.row, c.requires.within.down)) in
    omega (arith, row, c.requires.size, few_positions a.width a.height c.requires.small.0 c.requires.small.1)

pub offset_bounds-colours-from : goal.offset_bounds-colours-from
offset_bounds-colours-from c =
    let a = c.args in
    let row = row_within a.area.now.x a.area.now.y a.row a.area.now.w a.width a.height (length a.colours.now) c.requires.size c.requires.within.across (omega (arith, c.requires.row, c.requires.within.down)) in
    omega (arith, row, c.requires.size, few_positions a.width a.height c.requires.small.0 c.requires.small.1)

pub slice_bounds-result-end : goal.slice_bounds-result-end
slice_bounds-result-end c =
    let a = c.args in
    let row = row_within a.area.now.x a.area.now.y a.row a.area.now.w a.width a.height (length a.colours.now) c.requires.size c.requires.within.across (omega (arith, c.requires.row, c.requires.within.down)) in
    omega (arith, row)

pub returns-clause-across : goal.returns-clause-across
returns-clause-across c =
    let a = c.args in
    let from : ℕ = (a.area.now.y + a.row) * a.width + a.area.now.x in
    let row = row_within a.area.now.x a.area.now.y a.row a.area.now.w a.width a.height (length a.colours.now) c.requires.size c.requires.within.across (omega (arith, c.requires.row, c.requires.within.down)) in
    omega (arith, row, length-take (from + a.area.now.w - from) (drop from a.colours.now), length-drop from a.colours.now)

pub returns-clause-shows : goal.returns-clause-shows
returns-clause-shows c =
    let a = c.args in
    let from : ℕ = (a.area.now.y + a.row) * a.width + a.area.now.x in
    let wide : from + a.area.now.w - from ≡ a.area.now.w = omega arith in
    ap (λ n. take n (drop from a.colours.now)) wide ∙ part_is_row a.colours.now a.width a.height a.area.now a.row c.requires.size c.requires.within c.requires.row

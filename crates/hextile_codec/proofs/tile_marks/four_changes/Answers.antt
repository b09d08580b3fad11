use Rattle.std.proofs.Common.{◌≡◌, ℕ, ap, ◌∙◌, ◌+◌, ◌*◌, arith}
use Rattle.std.specs.Int.{bit_at}
use Rattle.raster.specs.Screen.{Canvas, value_at, part_of}
use Rattle.hextile_codec.specs.Bits.{bit_of}
use Rattle.hextile_codec.specs.Places.{changes_at}
use Rattle.hextile_codec.proofs.RowMarks.{Shows, by_four, shown_changes}
use Rattle.hextile_codec.proofs.tile_marks.four_changes.Goals as goal

pub returns-clause-bits : goal.returns-clause-bits
returns-clause-bits c r x lr lx =
    let canvas : Canvas = part_of c.args.tile.now (value_at c.args.w c.args.values.now) in
    let y : ℕ = c.args.y in
    let word : ℕ = c.join_bits.result in
    let place : 0 + x ≡ x = omega arith in
    let here : y + 0 ≡ y = omega arith in
    let shows_1 : Shows c.row_of.result.now canvas (y + 0) = λ k lt. rw here (c.row_of.ensures.values k (omega (arith, lt, c.requires.wide))) in
    let shows_2 : Shows c.row_of-2.result.now canvas (y + 1) = λ k lt. c.row_of-2.ensures.values k (omega (arith, lt, c.requires.wide)) in
    let shows_3 : Shows c.row_of-3.result.now canvas (y + 2) = λ k lt. c.row_of-3.ensures.values k (omega (arith, lt, c.requires.wide)) in
    let shows_4 : Shows c.row_of-4.result.now canvas (y + 3) = λ k lt. c.row_of-4.ensures.values k (omega (arith, lt, c.requires.wide)) in
    by_four (λ r. bit_at word (16 * r + x) ≡ bit_of (changes_at canvas (y + r) x))
    (ap (bit_at word) place ∙ (c.join_bits.ensures.first x lx ∙ (c.row_changes.ensures.bits x lx ∙ ap bit_of (shown_changes c.row_of.result.now canvas (y + 0) shows_1 x lx))))
    (c.join_bits.ensures.second x lx ∙ (c.row_changes-2.ensures.bits x lx ∙ ap bit_of (shown_changes c.row_of-2.result.now canvas (y + 1) shows_2 x lx)))
    (c.join_bits.ensures.third x lx ∙ (c.row_changes-3.ensures.bits x lx ∙ ap bit_of (shown_changes c.row_of-3.result.now canvas (y + 2) shows_3 x lx)))
    (c.join_bits.ensures.fourth x lx ∙ (c.row_changes-4.ensures.bits x lx ∙ ap bit_of (shown_changes c.row_of-4.result.now canvas (y + 3) shows_4 x lx))) r lr

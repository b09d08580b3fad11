use Rattle.std.proofs.Common.{◌≡◌, ℕ, not, ap, ◌∙◌, ◌+◌, ◌*◌, arith}
use Rattle.std.specs.Prelude.{◌==◌}
use Rattle.std.specs.Int.{bit_at}
use Rattle.raster.specs.Screen.{Canvas, value_at, part_of}
use Rattle.hextile_codec.specs.Bits.{bit_of}
use Rattle.hextile_codec.proofs.RowMarks.{by_four}
use Rattle.hextile_codec.proofs.tile_marks.four_others.Goals as goal

pub returns-clause-bits : goal.returns-clause-bits
returns-clause-bits c r x lr lx =
    let canvas : Canvas = part_of c.args.tile.now (value_at c.args.w c.args.values.now) in
    let y : ℕ = c.args.y in
    let word : ℕ = c.join_bits.result in
    let place : 0 + x ≡ x = omega arith in
    let here : y ≡ y + 0 = omega arith in
    let other : ℕ → ℕ = λ v. bit_of (not (v == c.args.value)) in
    by_four (λ r. bit_at word (16 * r + x) ≡ bit_of (not (canvas x (y + r) == c.args.value)))
    (ap (bit_at word) place ∙ (c.join_bits.ensures.first x lx ∙ (c.row_others.ensures.bits x lx ∙ (ap other (c.row_of.ensures.values x (omega (arith, lx, c.requires.wide))) ∙ ap (λ i. other (canvas x i)) here))))
    (c.join_bits.ensures.second x lx ∙ (c.row_others-2.ensures.bits x lx ∙ ap other (c.row_of-2.ensures.values x (omega (arith, lx, c.requires.wide)))))
    (c.join_bits.ensures.third x lx ∙ (c.row_others-3.ensures.bits x lx ∙ ap other (c.row_of-3.ensures.values x (omega (arith, lx, c.requires.wide)))))
    (c.join_bits.ensures.fourth x lx ∙ (c.row_others-4.ensures.bits x lx ∙ ap other (c.row_of-4.ensures.values x (omega (arith, lx, c.requires.wide))))) r lr

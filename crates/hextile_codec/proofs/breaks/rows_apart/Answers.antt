use Rattle.std.proofs.Common.{◌≡◌, ℕ, ◌+◌, ◌-◌, ◌*◌, ◌<◌, not, ap, ◌∙◌, arith}
use Rattle.std.specs.Prelude.{◌==◌}
use Rattle.std.specs.Int.{bit_at}
use Rattle.raster.specs.Screen.{Canvas, value_at, part_of}
use Rattle.hextile_codec.specs.Bits.{bit_of}
use Rattle.hextile_codec.proofs.RowMarks.{by_four}
use Rattle.hextile_codec.proofs.breaks.rows_apart.Goals as goal

pub returns-clause-bits : goal.returns-clause-bits
returns-clause-bits c r x lr lx some =
    let canvas : Canvas = part_of c.args.tile.now (value_at c.args.w c.args.values.now) in
    let y : ℕ = c.args.y in
    let word : ℕ = c.join_bits.result in
    let place : 0 + x ≡ x = omega arith in
    by_four (λ r. 0 < y + r → bit_at word (16 * r + x) ≡ bit_of (not (canvas x (y + r) == canvas x (y + r - 1))))
    (λ s. ap (bit_at word) place ∙ (c.join_bits.ensures.first x lx ∙ (c.row_apart.ensures.bits x lx (omega (arith, s)) ∙ ap (λ i. bit_of (not (canvas x i == canvas x (i - 1)))) (omega arith))))
    (λ s. c.join_bits.ensures.second x lx ∙ c.row_apart-2.ensures.bits x lx (omega (arith, s))) (λ s. c.join_bits.ensures.third x lx ∙ c.row_apart-3.ensures.bits x lx (omega (arith, s)))
    (λ s. c.join_bits.ensures.fourth x lx ∙ c.row_apart-4.ensures.bits x lx (omega (arith, s))) r lr some

use Rattle.std.proofs.Common.{◌≡◌, ℕ, not, ap, ◌∙◌, ◌+◌, ◌*◌, ◌<◌, arith}
use Rattle.std.specs.Prelude.{◌==◌}
use Rattle.std.specs.Int.{bit_at}
use Rattle.raster.specs.Screen.{Canvas, value_at, part_of}
use Rattle.raster.specs.Encoding.{begins_run}
use Rattle.hextile_codec.specs.Bits.{bit_of}
use Rattle.hextile_codec.proofs.RowMarks.{Shows, by_four, shown_begins, shown_ends}
use Rattle.hextile_codec.proofs.marking.mark_rows.Goals as goal

pub returns-clause-marks : goal.returns-clause-marks
returns-clause-marks c =
    let canvas : Canvas = part_of c.args.tile.now (value_at c.args.w c.args.values.now) in
    let y : ℕ = c.args.y in
    let bg : ℕ = c.args.background in
    let zero_place : (x : ℕ) → 0 + x ≡ x = λ x. omega arith in
    let here : y + 0 ≡ y = omega arith in
    let shows_1 : Shows c.row_of.result.now canvas (y + 0) = λ x lt. rw here (c.row_of.ensures.values x (omega (arith, lt, c.requires.wide))) in
    let shows_2 : Shows c.row_of-2.result.now canvas (y + 1) = λ x lt. c.row_of-2.ensures.values x (omega (arith, lt, c.requires.wide)) in
    let shows_3 : Shows c.row_of-3.result.now canvas (y + 2) = λ x lt. c.row_of-3.ensures.values x (omega (arith, lt, c.requires.wide)) in
    let shows_4 : Shows c.row_of-4.result.now canvas (y + 3) = λ x lt. c.row_of-4.ensures.values x (omega (arith, lt, c.requires.wide)) in
    let begins : (r : ℕ) → r < 4 → (x : ℕ) → x < 16 → bit_at c.join_bits.result (16 * r + x) ≡ bit_of (begins_run canvas bg (y + r) x) =
    by_four (λ r. (x : ℕ) → x < 16 → bit_at c.join_bits.result (16 * r + x) ≡ bit_of (begins_run canvas bg (y + r) x))
    (λ x lt. ap (bit_at c.join_bits.result) (zero_place x) ∙ (c.join_bits.ensures.first x lt ∙ (c.mark_row-first.ensures.begins x lt ∙ ap bit_of (shown_begins c.row_of.result.now canvas bg (y + 0) shows_1 x lt))))
    (λ x lt. c.join_bits.ensures.second x lt ∙ (c.mark_row-second.ensures.begins x lt ∙ ap bit_of (shown_begins c.row_of-2.result.now canvas bg (y + 1) shows_2 x lt)))
    (λ x lt. c.join_bits.ensures.third x lt ∙ (c.mark_row-third.ensures.begins x lt ∙ ap bit_of (shown_begins c.row_of-3.result.now canvas bg (y + 2) shows_3 x lt)))
    (λ x lt. c.join_bits.ensures.fourth x lt ∙ (c.mark_row-fourth.ensures.begins x lt ∙ ap bit_of (shown_begins c.row_of-4.result.now canvas bg (y + 3) shows_4 x lt))) in
    let ends : (r : ℕ) → r < 4 → (x : ℕ) → x + 1 < 16 → bit_at c.join_bits-2.result (16 * r + x) ≡ bit_of (not (canvas x (y + r) == canvas (x + 1) (y + r))) =
    by_four (λ r. (x : ℕ) → x + 1 < 16 → bit_at c.join_bits-2.result (16 * r + x) ≡ bit_of (not (canvas x (y + r) == canvas (x + 1) (y + r))))
    (λ x lt. ap (bit_at c.join_bits-2.result) (zero_place x) ∙ (c.join_bits-2.ensures.first x (omega (arith, lt)) ∙ (c.mark_row-first.ensures.ends x lt ∙ ap (λ b. bit_of (not b)) (shown_ends c.row_of.result.now canvas (y + 0) shows_1 x lt))))
    (λ x lt. c.join_bits-2.ensures.second x (omega (arith, lt)) ∙ (c.mark_row-second.ensures.ends x lt ∙ ap (λ b. bit_of (not b)) (shown_ends c.row_of-2.result.now canvas (y + 1) shows_2 x lt)))
    (λ x lt. c.join_bits-2.ensures.third x (omega (arith, lt)) ∙ (c.mark_row-third.ensures.ends x lt ∙ ap (λ b. bit_of (not b)) (shown_ends c.row_of-3.result.now canvas (y + 2) shows_3 x lt)))
    (λ x lt. c.join_bits-2.ensures.fourth x (omega (arith, lt)) ∙ (c.mark_row-fourth.ensures.ends x lt ∙ ap (λ b. bit_of (not b)) (shown_ends c.row_of-4.result.now canvas (y + 3) shows_4 x lt))) in
    record {
      begins = λ r x lr lx. begins r lr x lx;
      ends = λ r x lr lx. ends r lr x lx;
      last = by_four (λ r. bit_at c.join_bits-2.result (16 * r + 15) ≡ 1)
          (c.join_bits-2.ensures.first 15 (omega arith) ∙ c.mark_row-first.ensures.last)
          (c.join_bits-2.ensures.second 15 (omega arith) ∙ c.mark_row-second.ensures.last)
          (c.join_bits-2.ensures.third 15 (omega arith) ∙ c.mark_row-third.ensures.last)
          (c.join_bits-2.ensures.fourth 15 (omega arith) ∙ c.mark_row-fourth.ensures.last);
      few = c.join_bits.ensures.fits;
      small = c.join_bits-2.ensures.fits;
    }

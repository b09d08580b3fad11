use Rattle.std.proofs.Common.{◌≡◌, ℕ, zero, suc, Bool, not, ◌&&◌, List, get_or, sym, ap, ◌∙◌, ◌+◌, ◌-◌, ◌^◌, ◌<◌, min, true, false, bit_and, arith}
use Rattle.std.specs.Prelude.{◌==◌, count_ones}
use Rattle.std.specs.Int.{bit_at}
use Rattle.std.proofs.lemmas.Bool.{and_parts, ne_eqb}
use Rattle.std.proofs.lemmas.Nat.{and_le_l}
use Rattle.std.proofs.lemmas.Nat.Bits.{bit_at_and}
use Rattle.hextile_codec.specs.Bits.{bit_of}
use Rattle.hextile_codec.specs.Crowded.{is_corner}
use Rattle.hextile_codec.proofs.MaskBits.{both_bits}
use Rattle.hextile_codec.proofs.Tallies.{tally, tally_filter, tally_ones, tally_within}
use Rattle.hextile_codec.proofs.crowded.count_corners.Goals as goal

corner_from : (row other turned : List ℕ) (x : ℕ) → (0 < x → get_or turned x 0 ≡ get_or row (x - 1) 0) → (not (get_or turned x 0 == get_or row x 0) && not (get_or other x 0 == get_or row x 0)) ≡ true → is_corner row other x ≡ true
corner_from row other turned zero before e = (and_parts (not (get_or turned 0 0 == get_or row 0 0)) (not (get_or other 0 0 == get_or row 0 0)) e).1
corner_from row other turned (suc x) before e =
    let same : get_or turned (suc x) 0 ≡ get_or row (suc x - 1) 0 = before (omega arith) in
    let not_first : (suc x == 0) ≡ false = ne_eqb (suc x) 0 (λ z. absurd (omega (arith, z))) in
    rw not_first (ap (λ v. not (v == get_or row (suc x) 0) && not (get_or other (suc x) 0 == get_or row (suc x) 0)) (sym same) ∙ e)

pub returns-clause-corners : goal.returns-clause-corners
returns-clause-corners c =
    let row : List ℕ = c.args.row in
    let other : List ℕ = c.args.other in
    let turned : List ℕ = c.turned.result in
    let a : ℕ = c.differences.result in
    let b : ℕ = c.differences-2.result in
    let p : ℕ → Bool = λ x. not (get_or turned x 0 == get_or row x 0) && not (get_or other x 0 == get_or row x 0) in
    let bits : (x : ℕ) → x < 16 → bit_at (bit_and a b) x ≡ bit_of (p (0 + x)) = λ x lt.
    let here : 0 + x ≡ x = omega arith in
    bit_at_and a b x
    ∙ (ap (λ k. min k (bit_at b x)) (c.differences.ensures.bits x lt)
    ∙ (ap (λ k. min (bit_of (not (get_or turned x 0 == get_or row x 0))) k) (c.differences-2.ensures.bits x lt)
    ∙ (both_bits (not (get_or turned x 0 == get_or row x 0)) (not (get_or other x 0 == get_or row x 0)) ∙ ap (λ k. bit_of (p k)) (sym here)))) in
    let less : bit_and a b < 2 ^ 16 = omega (arith, and_le_l a b, c.differences.ensures.few) in
    let within = tally_within p (is_corner row other) 0 16 (λ x lo hi e. corner_from row other turned x (λ some. c.turned.ensures.values x some (omega (arith, hi))) e) in
    let counted : count_ones (bit_and a b) ≡ tally p 0 16 = tally_ones p 0 16 (bit_and a b) less bits in
    omega (arith, within, counted, tally_filter (is_corner row other) 0 16)

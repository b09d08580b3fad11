use Rattle.std.proofs.Common.{◌≡◌, ℕ, ◌-◌, ◌||◌, false, not, List, take, get_or, sym, ap, ◌∙◌, inl, inr, arith}
use Rattle.std.specs.Prelude.{◌==◌}
use Rattle.std.specs.Int.{bit_at}
use Rattle.std.specs.Int.Bits.{bit_or}
use Rattle.std.proofs.lemmas.Bool.{cases_lt, ne_eqb}
use Rattle.std.proofs.lemmas.List.{get_or-take}
use Rattle.std.proofs.lemmas.Nat.Bits.{bit_at_or, bit_at-pow_other, bit_at-pow_same, bit_at-lt}
use Rattle.hextile_codec.specs.Bits.{bit_of}
use Rattle.hextile_codec.proofs.MaskBits.{differ, no_more}
use Rattle.hextile_codec.proofs.tile_marks.row_changes.Goals as goal

pub returns-clause-bits : goal.returns-clause-bits
returns-clause-bits c x lt =
    let row : List ℕ = c.args.row.now in
    let word : ℕ = c.differences.result in
    elim (cases_lt 0 x) [
      | inl some ↦
          let none : bit_at 1 x ≡ 0 = bit_at-pow_other 0 x (λ e. absurd (omega (arith, e, some))) in
          let after : (x == 0) ≡ false = ne_eqb x 0 (λ e. absurd (omega (arith, e, some))) in
          let here : get_or (take 16 row) x 0 ≡ get_or row x 0 = get_or-take 16 row x 0 lt in
          bit_at_or word 1 x
          ∙ (no_more (bit_at word x) (bit_at 1 x) none
          ∙ (c.differences.ensures.bits x lt
          ∙ (ap (λ v. bit_of (differ v (get_or (take 16 row) x 0))) (c.turned.ensures.values x some lt ∙ get_or-take 16 row (x - 1) 0 (omega (arith, lt)))
          ∙ (ap (λ v. bit_of (differ (get_or row (x - 1) 0) v)) here ∙ ap (λ b. bit_of (b || not (get_or row (x - 1) 0 == get_or row x 0))) (sym after)))))
      | inr first ↦
          let zero_place : x ≡ 0 = omega (arith, first) in
          let one : bit_at 1 0 ≡ 1 = bit_at-pow_same 0 in
          let few = bit_at-lt word 0 in
          let set : bit_at (bit_or word 1) 0 ≡ 1 = bit_at_or word 1 0 ∙ omega (arith, one, few) in
          rw zero_place set
    ]

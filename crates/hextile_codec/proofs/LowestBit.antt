-- A number without its lowest bit, `n & (n - 1)`.
use Rattle.std.proofs.Common.{◌≡◌, ℕ, sym, ap, ◌∙◌, ◌+◌, ◌-◌, ◌*◌, ◌/◌, ◌%◌, ◌^◌, ◌<◌, w64, inl, inr, arith}
use Rattle.std.specs.Int.{bit_at, trailing_zeros}
use Rattle.std.specs.Int.Bits.{bit_and}
use Rattle.std.proofs.lemmas.Bool.{cases_lt}
use Rattle.std.proofs.lemmas.Nat.{pow_pos}
use Rattle.std.proofs.lemmas.Nat.Bits.{bit_at-trailing_zeros, bit_at_and, bit_at-pow_same, bit_at-pow_other, bit_at_ones_above, bit_at_cat_low, bit_at_cat_high, same_from_bits}
use Rattle.std.proofs.Math.Nat.{div-div-eq-div-mul}
use lib.Pow.{pow-add}

pub bit_shift : (n x i : ℕ) → bit_at (n / 2 ^ x) i ≡ bit_at n (x + i)
bit_shift n x i = ap (λ m. m % 2) (div-div-eq-div-mul n (2 ^ x) (2 ^ i) ∙ ap (λ m. n / m) (sym (pow-add 2 x i)))

module _ (n : ℕ) (some : 0 < n) (fits : n < 2 ^ 64) where
  abbrev place : ℕ
  place = trailing_zeros w64 n

  abbrev rest : ℕ
  rest = n / 2 ^ (place + 1)

  abbrev upper : ℕ
  upper = rest * 2 ^ (place + 1)

  found : (place < 64) × (bit_at n place ≡ 1) × ((i : ℕ) → i < place → bit_at n i ≡ 0)
  found = bit_at-trailing_zeros w64 n some fits

  upper_bit : (b i : ℕ) → b < 2 ^ (place + 1) → place < i → bit_at (upper + b) i ≡ bit_at n i
  upper_bit b i lt above =
      let back : place + 1 + (i - (place + 1)) ≡ i = omega (arith, above) in
      bit_at_cat_high rest (place + 1) b i lt (omega (arith, above)) ∙ (bit_shift n (place + 1) (i - (place + 1)) ∙ ap (bit_at n) back)

  double : 2 ^ (place + 1) ≡ 2 ^ place + 2 ^ place
  double = pow-add 2 place 1 ∙ omega arith

  -- The number is its upper bits and the lowest.
  by_parts : n ≡ upper + 2 ^ place
  by_parts = same_from_bits n (upper + 2 ^ place) (λ i.
      elim (cases_lt place i) [
        | inl above ↦ sym (upper_bit (2 ^ place) i (let p = pow_pos place in omega (arith, double, p)) above)
        | inr le ↦ elim (cases_lt i place) [
          | inl below ↦ found.2 i below ∙ sym (bit_at_cat_low rest (place + 1) (2 ^ place) i (omega (arith, below)) ∙ bit_at-pow_other place i (λ e. absurd (omega (arith, e, below))))
          | inr least ↦
              let same : i ≡ place = omega (arith, le, least) in
              ap (bit_at n) same ∙ (found.1 ∙ sym (ap (bit_at (upper + 2 ^ place)) same ∙ (bit_at_cat_low rest (place + 1) (2 ^ place) place (omega arith) ∙ bit_at-pow_same place)))
        ]
      ])

  less : n - 1 ≡ upper + (2 ^ place - 1)
  less = let p = pow_pos place in omega (arith, by_parts, p)

  pub cleared_other : (i : ℕ) → (i ≡ place → ⊥) → bit_at (bit_and n (n - 1)) i ≡ bit_at n i
  cleared_other i apart = elim (cases_lt place i) [
    | inl above ↦
        let same : bit_at (n - 1) i ≡ bit_at n i = ap (λ m. bit_at m i) less ∙ upper_bit (2 ^ place - 1) i (let p = pow_pos place in omega (arith, double, p)) above in
        bit_at_and n (n - 1) i ∙ omega (arith, same)
    | inr le ↦
        let below : i < place = elim (cases_lt i place) [
          | inl lt ↦ lt
          | inr least ↦ absurd (apart (omega (arith, le, least)))
        ] in
        let none = found.2 i below in
        bit_at_and n (n - 1) i ∙ omega (arith, none)
  ]

  pub cleared_same : bit_at (bit_and n (n - 1)) place ≡ 0
  cleared_same =
      let none : bit_at (n - 1) place ≡ 0 = ap (λ m. bit_at m place) less ∙ (bit_at_cat_low rest (place + 1) (2 ^ place - 1) place (omega arith) ∙ bit_at_ones_above place place (omega arith)) in
      bit_at_and n (n - 1) place ∙ omega (arith, none)

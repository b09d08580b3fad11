-- The bits of a word that a loop has still to go through, from the lowest on, and what it lists for them.
use Rattle.std.proofs.Common.{◌≡◌, ℕ, suc, Bool, true, false, cond, List, [], ◌∷◌, map, refl, sym, ap, ◌∙◌, ◌+◌, ◌-◌, ◌^◌, ◌<◌, ◌≤◌, w64, inl, inr, arith}
use Rattle.std.specs.Prelude.{filter}
use Rattle.std.specs.List.{range_with_len}
use Rattle.std.specs.Int.{bit_at, trailing_zeros}
use Rattle.std.specs.Int.Bits.{bit_and}
use Rattle.std.proofs.lemmas.Bool.{cases_lt}
use Rattle.std.proofs.lemmas.Nat.{and_le_l}
use Rattle.std.proofs.lemmas.Nat.Bits.{bit_at-trailing_zeros, bit_at-zero}
use Rattle.raster.specs.Encoding.{Subrect}
use Rattle.raster.proofs.RowScan.{filter_skips}
use Rattle.hextile_codec.specs.Bits.{bit_of}
use Rattle.hextile_codec.proofs.RowRuns.{none_pass}
use Rattle.hextile_codec.proofs.LowestBit.{cleared_same, cleared_other}

pub bit_true : (b : Bool) → bit_of b ≡ 1 → b ≡ true
bit_true true e = refl
bit_true false e = absurd cc

pub bit_false : (b : Bool) → bit_of b ≡ 0 → b ≡ false
bit_false true e = absurd cc
bit_false false e = refl

-- Positions of a word, those that pass a test.
module _ (test : ℕ → Bool) where
  pub record IsNext (p first : ℕ) : Type 0 where
    pub inside : first < 64
    pub from : p ≤ first
    pub passes : test first ≡ true
    pub none : (k : ℕ) → p ≤ k → k < first → test k ≡ false

  -- Of the bits of those that pass, those from position p on.
  pub record AreLeft (p bits : ℕ) : Type 0 where
    pub above : (k : ℕ) → p ≤ k → k < 64 → bit_at bits k ≡ bit_of (test k)
    pub below : (k : ℕ) → k < p → bit_at bits k ≡ 0
    pub few : bits < 2 ^ 64

  pub next_one : (p bits : ℕ) → AreLeft p bits → 0 < bits → IsNext p (trailing_zeros w64 bits)
  next_one p bits are some =
      let t : ℕ = trailing_zeros w64 bits in
      let b = bit_at-trailing_zeros w64 bits some are.few in
      let from : p ≤ t = elim (cases_lt t p) [
        | inl lt ↦ let zero_bit = are.below t lt in absurd (omega (arith, b.1, zero_bit))
        | inr le ↦ le
      ] in
      record {
        inside = b.0;
        from = from;
        passes = bit_true _ (sym (are.above t from b.0) ∙ b.1);
        none = λ k lo hi. bit_false _ (sym (are.above k lo (omega (arith, hi, b.0))) ∙ b.2 k hi);
      }

  -- The lowest is cleared.
  pub one_cleared : (p bits : ℕ) → AreLeft p bits → 0 < bits → AreLeft (trailing_zeros w64 bits + 1) (bit_and bits (bits - 1))
  one_cleared p bits are some =
      let first : ℕ = trailing_zeros w64 bits in
      let n = next_one p bits are some in
      let b = bit_at-trailing_zeros w64 bits some are.few in
      record {
        above = λ k lo hi. cleared_other bits some are.few k (λ e. absurd (omega (arith, e, lo))) ∙ are.above k (omega (arith, lo, n.from)) hi;
        below = λ k lt. elim (cases_lt k first) [
          | inl less ↦ cleared_other bits some are.few k (λ e. absurd (omega (arith, e, less))) ∙ b.2 k less
          | inr le ↦ let same : k ≡ first = omega (arith, le, lt) in ap (bit_at (bit_and bits (bits - 1))) same ∙ cleared_same bits some are.few
        ];
        few = let le = and_le_l bits (bits - 1) in omega (arith, le, are.few);
      }

  -- Then there are fewer.
  pub fewer_left : (p bits : ℕ) → AreLeft p bits → 0 < bits → bit_and bits (bits - 1) < bits
  fewer_left p bits are some =
      let t : ℕ = trailing_zeros w64 bits in
      let left : ℕ = bit_and bits (bits - 1) in
      let b = bit_at-trailing_zeros w64 bits some are.few in
      let le : left ≤ bits = and_le_l bits (bits - 1) in
      let gone : bit_at left t ≡ 0 = cleared_same bits some are.few in
      elim (cases_lt left bits) [
        | inl lt ↦ lt
        | inr same ↦ let e : left ≡ bits = omega (arith, le, same) in let both : bit_at left t ≡ bit_at bits t = ap (λ n. bit_at n t) e in absurd (omega (arith, both, gone, b.1))
      ]

  -- What is listed for those from position p on.
  module _ (f : ℕ → Subrect) where
    abbrev pub listed_behind : ℕ → List Subrect
    listed_behind p = map f (filter test (range_with_len p (64 - p)))

    pub next_listed : (p first : ℕ) → IsNext p first → listed_behind p ≡ f first ∷ listed_behind (first + 1)
    next_listed p first n =
        let m : ℕ = 64 - (first + 1) in
        let count : 64 - p ≡ (first - p) + suc m = omega (arith, n.inside, n.from) in
        let place : p + (first - p) ≡ first = omega (arith, n.from) in
        ap (λ k. map f (filter test (range_with_len p k))) count
        ∙ (ap (map f) (filter_skips test p (first - p) (suc m) (λ k lo hi. n.none k lo (omega (arith, hi, n.from))))
        ∙ (ap (λ k. map f (filter test (range_with_len k (suc m)))) place ∙ ap (λ b. map f (cond b (first ∷ filter test (range_with_len (first + 1) m)) (filter test (range_with_len (first + 1) m)))) n.passes))

    -- There is none.
    pub none_listed : (p bits : ℕ) → AreLeft p bits → bits ≡ 0 → listed_behind p ≡ []
    none_listed p bits are none = ap (map f) (none_pass test p (64 - p) (λ k lo hi. bit_false _ (sym (are.above k lo (omega (arith, hi, lo))) ∙ (ap (λ m. bit_at m k) none ∙ bit_at-zero k))))

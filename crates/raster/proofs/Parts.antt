-- Values that are moved part by part inside one list. A copy onto itself moves rows by slices.
use Rattle.std.proofs.Common.{◌≡◌, ℕ, ◌+◌, ◌-◌, ◌≤◌, List, get_or, ap, ◌∙◌, arith, inl, inr}
use Rattle.std.proofs.lemmas.Bool.{cases_lt}
use Rattle.raster.specs.Moved.{IsMoved}

-- Further values are moved to an earlier place, after those that were moved before.
pub moved_behind : (old now new : List ℕ) (from to a b : ℕ) → to ≤ from → IsMoved old now from to a → IsMoved now new (from + a) (to + a) b → IsMoved old new from to (a + b)
moved_behind old now new from to a b down first then =
    record {
      inside = λ k lt. elim (cases_lt k a) [
        | inl early ↦ then.below (to + k) (omega arith) ∙ first.inside k early
        | inr late ↦
            let j : ℕ = k - a in
            let place : to + k ≡ to + a + j = omega arith in
            let source : from + a + j ≡ from + k = omega arith in
            ap (λ p. get_or new p 0) place ∙ (then.inside j (omega arith) ∙ (ap (λ p. get_or now p 0) source ∙ first.past (from + k) (omega arith)))
      ];
      below = λ k lt. then.below k (omega arith) ∙ first.below k lt;
      past = λ k le. then.past k (omega arith) ∙ first.past k (omega arith);
    }

-- Further values are moved to a later place, before those that were moved before.
pub moved_before : (old now new : List ℕ) (from to a b : ℕ) → from ≤ to → IsMoved old now (from + a) (to + a) b → IsMoved now new from to a → IsMoved old new from to (a + b)
moved_before old now new from to a b up first then =
    record {
      inside = λ k lt. elim (cases_lt k a) [
        | inl early ↦ then.inside k early ∙ first.below (from + k) (omega arith)
        | inr late ↦
            let j : ℕ = k - a in
            let place : to + k ≡ to + a + j = omega arith in
            let source : from + a + j ≡ from + k = omega arith in
            then.past (to + k) (omega arith) ∙ (ap (λ p. get_or now p 0) place ∙ (first.inside j (omega arith) ∙ ap (λ p. get_or old p 0) source))
      ];
      below = λ k lt. then.below k lt ∙ first.below k (omega arith);
      past = λ k le. then.past k (omega arith) ∙ first.past k (omega arith);
    }

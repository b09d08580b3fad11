-- Tests of one number after another, and of the parts of a test.
use Rattle.std.proofs.Common.{◌≡◌, ℕ, zero, suc, ◌+◌, ◌<◌, ◌≤◌, Bool, true, false, refl, ap, ◌∙◌, arith, inl, inr}
use Rattle.std.specs.Prelude.{not, ◌&&◌, ◌||◌}
use Rattle.std.specs.List.{list_any, range_with_len}
use Rattle.std.proofs.lemmas.Bool.{cases_lt}
use Rattle.tiles.proofs.Touching.{or_left, or_right}

-- None of some numbers passes: not the one at k either.
pub none_at : (p : ℕ → Bool) (n a k : ℕ) → list_any p (range_with_len a n) ≡ false → a ≤ k → k < a + n → p k ≡ false
none_at p zero a k none lo hi = absurd (omega arith)
none_at p (suc n) a k none lo hi =
    elim (cases_lt a k) [
      | inl less ↦ none_at p n (a + 1) k (or_right (p a) (list_any p (range_with_len (a + 1) n)) none) (omega arith) (omega arith)
      | inr more ↦ (let is : k ≡ a = omega arith in ap p is ∙ or_left (p a) (list_any p (range_with_len (a + 1) n)) none)
    ]

pub none_of : (p : ℕ → Bool) (n a : ℕ) → ((k : ℕ) → a ≤ k → k < a + n → p k ≡ false) → list_any p (range_with_len a n) ≡ false
none_of p zero a none = refl
none_of p (suc n) a none =
    ap (λ b. b || list_any p (range_with_len (a + 1) n)) (none a (omega arith) (omega arith))
    ∙ none_of p n (a + 1) (λ k lo hi. none k (omega arith) (omega arith))

or_true : (a : Bool) → (a || true) ≡ true
or_true true = refl
or_true false = refl

pub some_of : (p : ℕ → Bool) (n a k : ℕ) → p k ≡ true → a ≤ k → k < a + n → list_any p (range_with_len a n) ≡ true
some_of p zero a k e lo hi = absurd (omega arith)
some_of p (suc n) a k e lo hi =
    elim (cases_lt a k) [
      | inl less ↦ ap (λ b. p a || b) (some_of p n (a + 1) k e (omega arith) (omega arith)) ∙ or_true (p a)
      | inr more ↦ (let is : a ≡ k = omega arith in ap (λ b. b || list_any p (range_with_len (a + 1) n)) (ap p is ∙ e))
    ]

-- Tests that agree on some numbers find one among them alike.
pub same_any : (p q : ℕ → Bool) (n a : ℕ) → ((k : ℕ) → a ≤ k → k < a + n → p k ≡ q k) → list_any p (range_with_len a n) ≡ list_any q (range_with_len a n)
same_any p q zero a same = refl
same_any p q (suc n) a same =
    ap (λ b. b || list_any p (range_with_len (a + 1) n)) (same a (omega arith) (omega arith))
    ∙ ap (λ b. q a || b) (same_any p q n (a + 1) (λ k lo hi. same k (omega arith) (omega arith)))

pub not_false : (a : Bool) → not a ≡ true → a ≡ false
not_false true e = absurd cc
not_false false e = refl

-- Of two parts that don't both hold the first doesn't where the second does.
pub and_first : (a b : Bool) → (a && b) ≡ false → b ≡ true → a ≡ false
and_first true b e f = absurd cc
and_first false b e f = refl

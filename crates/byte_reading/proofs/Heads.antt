-- Forms that begin with a given number of bytes, which are judged together once all of them have come: the head of a
-- message, a block of addresses. Readers wait for them.
use Rattle.std.proofs.Common.{◌≡◌, ℕ, zero, suc, ◌+◌, ◌<◌, ◌≤◌, true, List, [], ◌∷◌, length, refl, ap, ◌∙◌, arith}
use Rattle.byte_reading.specs.Reading.{Reading, Done, ◌>>=◌, step, after, taken, bytes, wants_more}
use Rattle.byte_reading.proofs.ReadingLaws.{bind_assoc, taken-nil}

-- After the first byte the rest is such a form again.
head_step : {A : Type 0} (n : ℕ) (next : List ℕ → Reading A) (b : ℕ) → step (bytes (suc n) >>= next) b ≡ (bytes n >>= λ others. next (b ∷ others))
head_step n next b = bind_assoc (bytes n) (λ others. Done (b ∷ others)) next

-- A byte is missing.
pub head_wants : {A : Type 0} (n : ℕ) (next : List ℕ → Reading A) (xs : List ℕ) → length xs < n → wants_more (after (bytes n >>= next) xs) ≡ true
head_wants zero next xs lt = absurd (omega arith)
head_wants (suc n) next [] lt = refl
head_wants (suc n) next (b ∷ xs) lt = ap (λ r. wants_more (after r xs)) (head_step n next b) ∙ head_wants n (λ others. next (b ∷ others)) xs (omega arith)

-- All have come.
pub head_full : {A : Type 0} (n : ℕ) (next : List ℕ → Reading A) (xs : List ℕ) → length xs ≡ n → after (bytes n >>= next) xs ≡ next xs
head_full zero next [] e = refl
head_full zero next (b ∷ xs) e = absurd (omega arith)
head_full (suc n) next [] e = absurd (omega arith)
head_full (suc n) next (b ∷ xs) e = ap (λ r. after r xs) (head_step n next b) ∙ head_full n (λ others. next (b ∷ others)) xs (omega arith)

-- Each byte of it is taken.
pub head_takes : {A : Type 0} (n : ℕ) (next : List ℕ → Reading A) (begun xs : List ℕ) → length begun + length xs ≤ n → taken (after (bytes n >>= next) begun) xs ≡ length xs
head_takes n next [] [] le = taken-nil (bytes n >>= next)
head_takes zero next [] (b ∷ xs) le = absurd (omega arith)
head_takes (suc n) next [] (b ∷ xs) le = ap suc (ap (λ r. taken r xs) (head_step n next b) ∙ head_takes n (λ others. next (b ∷ others)) [] xs (omega arith))
head_takes zero next (b ∷ begun) xs le = absurd (omega arith)
head_takes (suc n) next (b ∷ begun) xs le = ap (λ r. taken (after r begun) xs) (head_step n next b) ∙ head_takes n (λ others. next (b ∷ others)) begun xs (omega arith)

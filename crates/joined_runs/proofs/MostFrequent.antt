-- The most frequent value stands in the list, unless that is empty, and none stands there more often. So a tile's
-- background is one of its pixels.
use Rattle.std.proofs.Common.{◌≡◌, ℕ, Bool, true, false, cond, List, [], ◌∷◌, length, get_or, refl, sym, ◌∙◌, ◌<◌, ◌≤◌, arith, inl, inr}
use Rattle.std.specs.Prelude.{filter, ◌⊎◌, nat_le}
use Rattle.std.specs.List.{list_all}
use Rattle.std.proofs.lemmas.Bool.{cases_lt, and_from, and_parts, le-leb}
use Rattle.raster.proofs.Spellings.{Each, each_weaker}
use Rattle.raster.proofs.Runs.{SomeOf, some_weaker}
use Rattle.joined_runs.specs.Joined.{count_of, is_most_frequent, most_frequent}

-- ---- the first that passes a test

head_by : (P : ℕ → Type 0) (p : ℕ → Bool) (b : Bool) (x : ℕ) (xs : List ℕ) → p x ≡ b → P x → SomeOf (λ y. p y ≡ true) (x ∷ xs)
    → (SomeOf (λ y. p y ≡ true) xs → P (get_or (filter p xs) 0 0) × (p (get_or (filter p xs) 0 0) ≡ true))
    → P (get_or (cond b (x ∷ filter p xs) (filter p xs)) 0 0) × (p (get_or (cond b (x ∷ filter p xs) (filter p xs)) 0 0) ≡ true)
head_by P p true x xs e h some others = (h, e)
head_by P p false x xs e h (inl q) others = let f : false ≡ true = sym e ∙ q in absurd cc
head_by P p false x xs e h (inr q) others = others q

pub first_passes : (P : ℕ → Type 0) (p : ℕ → Bool) (xs : List ℕ) → Each P xs → SomeOf (λ x. p x ≡ true) xs → P (get_or (filter p xs) 0 0) × (p (get_or (filter p xs) 0 0) ≡ true)
first_passes P p [] h some = absurd some
first_passes P p (x ∷ xs) h some = head_by P p (p x) x xs refl h.0 some (first_passes P p xs h.1)

-- ---- one has the most

-- The count of none of a list is above that of this value.
abbrev pub IsMost : (ℕ → ℕ) → List ℕ → ℕ → Type 0
IsMost f xs v = Each (λ x. f x ≤ f v) xs

one_has_most : (f : ℕ → ℕ) (x : ℕ) (xs : List ℕ) → SomeOf (IsMost f (x ∷ xs)) (x ∷ xs)
one_has_most f x [] = inl (omega arith, tt)
one_has_most f x (y ∷ ys) = by_rest (one_has_most f y ys)
  where
    -- That of the rest is the most of all, or the first is.
    compared : (v : ℕ) → IsMost f (y ∷ ys) v → IsMost f (x ∷ y ∷ ys) v ⊎ IsMost f (x ∷ y ∷ ys) x
    compared v h =
        elim (cases_lt (f v) (f x)) [
          | inl lt ↦ inr (omega arith, each_weaker (λ u. f u ≤ f v) (λ u. f u ≤ f x) (y ∷ ys) (λ u le. omega (arith, lt, le)) h)
          | inr ge ↦ inl (omega (arith, ge), h)
        ]

    found : (us : List ℕ) → SomeOf (IsMost f (y ∷ ys)) us → IsMost f (x ∷ y ∷ ys) x ⊎ SomeOf (IsMost f (x ∷ y ∷ ys)) us
    found [] some = absurd some
    found (u ∷ us) (inl p) = elim (compared u p) [ inl q ↦ inr (inl q) | inr q ↦ inl q ]
    found (u ∷ us) (inr p) = elim (found us p) [ inl q ↦ inl q | inr q ↦ inr (inr q) ]

    by_rest : SomeOf (IsMost f (y ∷ ys)) (y ∷ ys) → SomeOf (IsMost f (x ∷ y ∷ ys)) (x ∷ y ∷ ys)
    by_rest some = found (y ∷ ys) some

pub all_from : (p : ℕ → Bool) (xs : List ℕ) → Each (λ x. p x ≡ true) xs → list_all p xs ≡ true
all_from p [] h = refl
all_from p (x ∷ xs) h = and_from (p x) (list_all p xs) h.0 (all_from p xs h.1)

pub each_of : (p : ℕ → Bool) (xs : List ℕ) → list_all p xs ≡ true → Each (λ x. p x ≡ true) xs
each_of p [] e = tt
each_of p (x ∷ xs) e = let both = and_parts (p x) (list_all p xs) e in (both.0, each_of p xs both.1)

pub most_from : (values : List ℕ) (v : ℕ) → IsMost (count_of values) values v → is_most_frequent values v ≡ true
most_from values v h = all_from (λ u. nat_le (count_of values u) (count_of values v)) values (each_weaker (λ u. count_of values u ≤ count_of values v) (λ u. nat_le (count_of values u) (count_of values v) ≡ true) values (λ u le. le-leb (count_of values u) (count_of values v) le) h)

-- What holds of each value of a list that isn't empty holds of the most frequent.
pub most_holds : (P : ℕ → Type 0) (values : List ℕ) → 0 < length values → Each P values → P (most_frequent values)
most_holds P [] lt h = absurd (omega arith)
most_holds P (x ∷ xs) lt h =
    (first_passes P (is_most_frequent (x ∷ xs)) (x ∷ xs) h (some_weaker (IsMost (count_of (x ∷ xs)) (x ∷ xs)) (λ v. is_most_frequent (x ∷ xs) v ≡ true) (x ∷ xs) (λ v. most_from (x ∷ xs) v) (one_has_most (count_of (x ∷ xs)) x xs))).0

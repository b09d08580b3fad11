-- How many values at the front of a list are one value, where sixteen are compared at once.
use Rattle.std.proofs.Common.{◌≡◌, ℕ, Bool, true, false, not, eqb, List, length, get_or, take, drop, map, refl, sym, ap, ◌∙◌, ◌+◌, ◌-◌, ◌<◌, ◌≤◌, inl, inr, arith}
use Rattle.std.specs.Prelude.{take_while}
use Rattle.std.specs.List.{prefix_len}
use Rattle.std.proofs.lemmas.Bool.{cases_lt}
use Rattle.std.proofs.lemmas.List.{length-take-le, length-drop, get_or-drop, take_all}
use Rattle.std.proofs.lemmas.List.Folds.{length-prefix_len}
use Rattle.std.proofs.lemmas.List.Sums.{prefix_len_is, prefix_len_passes, prefix_len_stops, prefix_len-le-length}
use Rattle.std.proofs.lemmas.Simd.{trailing_mask_l, none_from_empty_mask, run_in_chunk_le, run_in_chunk_fails, run_in_chunk_stops}
use lib.Lanes.{mask_l, chunk}
use lib.Count.{count_trailing_zeros}

abbrev pub differ : ℕ → ℕ → Bool
differ a b = not (eqb a b)

is_same : (b : Bool) → not b ≡ false → b ≡ true
is_same true e = refl
is_same false e = sym e

is_other : (b : Bool) → not b ≡ true → b ≡ false
is_other true e = sym e
is_other false e = refl

-- Each of the first n is this value.
abbrev pub AreAll : List ℕ → ℕ → ℕ → Type 0
AreAll values value n = (k : ℕ) → k < n → eqb (get_or values k 0) value ≡ true

pub chunk_len : (values : List ℕ) (from : ℕ) → from + 16 ≤ length values → length (chunk from 16 values) ≡ 16
chunk_len values from le = length-take-le 16 (drop from values) (omega (arith, length-drop from values, le))

module _ (values : List ℕ) (from value : ℕ) (le : from + 16 ≤ length values) {m : ℕ} (is : m ≡ mask_l (map (λ x. differ x value) (chunk from 16 values))) where
  -- No bit is set.
  pub all_same : m ≡ 0 → (k : ℕ) → from ≤ k → k < from + 16 → eqb (get_or values k 0) value ≡ true
  all_same none k lo hi = is_same (eqb (get_or values k 0) value) (none_from_empty_mask (λ x. differ x value) values from 16 0 le (sym is ∙ none) k lo hi)

  counted : 0 < m → count_trailing_zeros 64 m ≡ prefix_len (λ x. not (differ x value)) (chunk from 16 values)
  counted some = ap (count_trailing_zeros 64) is ∙ trailing_mask_l (λ x. differ x value) 64 (chunk from 16 values) (omega (arith, chunk_len values from le)) (omega (arith, is, some))

  pub front_few : 0 < m → count_trailing_zeros 64 m ≤ 16
  front_few some = run_in_chunk_le (λ x. differ x value) values from 16 (count_trailing_zeros 64 m) 0 le (counted some)

  pub front_same : 0 < m → (k : ℕ) → from ≤ k → k < from + count_trailing_zeros 64 m → eqb (get_or values k 0) value ≡ true
  front_same some k lo hi = is_same (eqb (get_or values k 0) value) (run_in_chunk_fails (λ x. differ x value) values from 16 (count_trailing_zeros 64 m) 0 le (counted some) k lo hi)

  pub front_stops : 0 < m → count_trailing_zeros 64 m < 16 → eqb (get_or values (from + count_trailing_zeros 64 m) 0) value ≡ false
  front_stops some few = is_other (eqb (get_or values (from + count_trailing_zeros 64 m) 0) value) (run_in_chunk_stops (λ x. differ x value) values from 16 (count_trailing_zeros 64 m) 0 le (counted some) few)

-- ---- the run at the front

pub run_is : (values : List ℕ) (value n : ℕ) → n ≤ length values → AreAll values value n → (n < length values → eqb (get_or values n 0) value ≡ false) → n ≡ length (take_while (λ v. eqb v value) values)
run_is values value n le all stops =
    sym (length-prefix_len (λ v. eqb v value) values ∙ prefix_len_is (λ v. eqb v value) values n 0 le all stops)

pub more_same : (values : List ℕ) (value len more : ℕ) → AreAll values value len → ((k : ℕ) → len ≤ k → k < len + more → eqb (get_or values k 0) value ≡ true) → AreAll values value (len + more)
more_same values value len more all next k lt = elim (cases_lt k len) [
  | inl below ↦ all k below
  | inr from ↦ next k from lt
]

pub run_goes_on : (values : List ℕ) (value len : ℕ) → len ≤ length values → AreAll values value len → len + length (take_while (λ v. eqb v value) (take (length values - len) (drop len values))) ≡ length (take_while (λ v. eqb v value) values)
run_goes_on values value len le all =
    let p : ℕ → Bool = λ v. eqb v value in
    let rest : List ℕ = drop len values in
    let r : ℕ = prefix_len p rest in
    let most : r ≤ length rest = prefix_len-le-length p rest in
    let size : length rest ≡ length values - len = length-drop len values in
    let next : (k : ℕ) → len ≤ k → k < len + r → eqb (get_or values k 0) value ≡ true = λ k lo hi.
    let at : len + (k - len) ≡ k = omega (arith, lo) in
    ap (λ i. p (get_or values i 0)) (sym at) ∙ (ap p (sym (get_or-drop len values (k - len) 0)) ∙ prefix_len_passes p rest (k - len) 0 (omega (arith, lo, hi))) in
    let stops : len + r < length values → eqb (get_or values (len + r) 0) value ≡ false = λ lt.
    ap p (sym (get_or-drop len values r 0)) ∙ prefix_len_stops p rest 0 (omega (arith, lt, size)) in
    ap (λ l. len + length (take_while p l)) (take_all (length values - len) rest (omega (arith, size))) ∙ (ap (λ n. len + n) (length-prefix_len p rest) ∙ run_is values value (len + r) (omega (arith, most, size, le)) (more_same values value len r all next) stops)

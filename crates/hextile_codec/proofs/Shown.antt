-- How often a value shows in a tile at most. `most_shown` counts that band after band.
use Rattle.std.proofs.Common.{◌≡◌, ℕ, zero, suc, Bool, true, false, not, ◌&&◌, ◌||◌, List, length, get_or, refl, sym, ap, ◌∙◌, ◌+◌, ◌-◌, ◌≤◌, ◌⊎◌, inl, inr, arith}
use Rattle.std.specs.Prelude.{filter, ◌==◌}
use Rattle.std.specs.List.{range_with_len}
use Rattle.std.proofs.lemmas.Bool.{and_parts, eq-eqb, eqb-true}
use Rattle.raster.specs.Screen.{Canvas}
use Rattle.hextile_codec.specs.Bits.{bit_of}
use Rattle.hextile_codec.specs.Crowded.{is_seen, shown_in}
use Rattle.hextile_codec.proofs.RowMarks.{Shows}
use Rattle.hextile_codec.proofs.Tallies.{tally, tally_filter, tally_few, tally_split, tally_within}

bit_both : (p q : Bool) → bit_of p + bit_of q ≡ bit_of (p && q) + bit_of (q || p)
bit_both true true = refl
bit_both true false = refl
bit_both false true = refl
bit_both false false = refl

-- What passes both tests is counted twice.
both_or : (p q : ℕ → Bool) (a n : ℕ) → tally p a n + tally q a n ≡ tally (λ x. p x && q x) a n + tally (λ x. q x || p x) a n
both_or p q a zero = refl
both_or p q a (suc n) = omega (arith, bit_both (p a) (q a), both_or p q (a + 1) n)

bit_not : (b : Bool) → bit_of b + bit_of (not b) ≡ 1
bit_not true = refl
bit_not false = refl

pub tally_not : (p : ℕ → Bool) (a n : ℕ) → tally p a n + tally (λ x. not (p x)) a n ≡ n
tally_not p a zero = refl
tally_not p a (suc n) = omega (arith, bit_not (p a), tally_not p (a + 1) n)

-- ---- one row

module _ (canvas : Canvas) (v y top : ℕ) where
  abbrev pub is_again : ℕ → ℕ → Bool
  is_again n x = (canvas x y == v) && is_seen canvas v top n x

  pub none_again : length (filter (is_again 0) (range_with_len 0 16)) ≤ 0
  none_again =
      let none : tally (λ x. false) 0 16 ≡ 0 = refl in
      omega (arith, tally_filter (is_again 0) 0 16, tally_within (is_again 0) (λ x. false) 0 16 (λ x lo hi e. (and_parts (canvas x y == v) false e).1), none)

  again_in : (row other : List ℕ) (n x : ℕ) → get_or row x 0 ≡ canvas x y → get_or other x 0 ≡ canvas x (top + n) → is_again (suc n) x ≡ true → (is_again n x ≡ true) ⊎ ((get_or row x 0 == get_or other x 0) ≡ true)
  again_in row other n x here there e =
      let both = and_parts (canvas x y == v) (is_seen canvas v top n x || (canvas x (top + n) == v)) e in
      by_test (is_seen canvas v top n x) refl (canvas x (top + n) == v) refl both.0 both.1
    where
      by_test : (b : Bool) → is_seen canvas v top n x ≡ b → (c : Bool) → (canvas x (top + n) == v) ≡ c → (canvas x y == v) ≡ true → (b || c) ≡ true → (is_again n x ≡ true) ⊎ ((get_or row x 0 == get_or other x 0) ≡ true)
      by_test true s c t at e = inl (rw (at, s) refl)
      by_test false s true t at e = inr (eq-eqb (get_or row x 0) (get_or other x 0) (here ∙ (eqb-true (canvas x y) v at ∙ (sym (eqb-true (canvas x (top + n)) v t) ∙ sym there))))
      by_test false s false t at e = absurd cc

  pub again_on : (row other : List ℕ) (n again same : ℕ) → Shows row canvas y → Shows other canvas (top + n) → length (filter (λ x. get_or row x 0 == get_or other x 0) (range_with_len 0 16)) ≤ same
      → length (filter (is_again n) (range_with_len 0 16)) ≤ again → length (filter (is_again (n + 1)) (range_with_len 0 16)) ≤ again + same
  again_on row other n again same shows also few so =
      let next : n + 1 ≡ suc n = omega arith in
      let split = tally_split (is_again (suc n)) (is_again n) (λ x. get_or row x 0 == get_or other x 0) 0 16 (λ x lo hi e. again_in row other n x (shows x (omega (arith, hi))) (also x (omega (arith, hi))) e) in
      rw next (omega (arith, split, few, so, tally_filter (is_again (suc n)) 0 16, tally_filter (is_again n) 0 16, tally_filter (λ x. get_or row x 0 == get_or other x 0) 0 16))

-- ---- band after band

-- In the rows so far a value shows at no more positions, and at fewer where it isn't in all columns of the band yet.
abbrev pub IsMost : Canvas → ℕ → ℕ → ℕ → Type 0
IsMost canvas top y most = (v : ℕ) → shown_in canvas v y + 16 ≤ most + tally (is_seen canvas v top (y - top)) 0 16

shown_next : (canvas : Canvas) (v y : ℕ) → shown_in canvas v (y + 1) ≡ shown_in canvas v y + tally (λ x. canvas x y == v) 0 16
shown_next canvas v y = let next : y + 1 ≡ suc y = omega arith in ap (shown_in canvas v) next ∙ ap (λ n. shown_in canvas v y + n) (tally_filter (λ x. canvas x y == v) 0 16)

seen_one : (canvas : Canvas) (v y : ℕ) → tally (is_seen canvas v y (y + 1 - y)) 0 16 ≡ tally (λ x. canvas x y == v) 0 16
seen_one canvas v y =
    let one : y + 1 - y ≡ suc zero = omega arith in
    let place : y + zero ≡ y = omega arith in
    ap (λ k. tally (is_seen canvas v y k) 0 16) one ∙ ap (λ r. tally (λ x. false || (canvas x r == v)) 0 16) place

pub first_most : (canvas : Canvas) → IsMost canvas 0 1 16
first_most canvas = λ v. omega (arith, shown_next canvas v 0, seen_one canvas v 0)

pub new_band : (canvas : Canvas) (top y most : ℕ) → IsMost canvas top y most → IsMost canvas y (y + 1) (most + 16)
new_band canvas top y most so = λ v. omega (arith, so v, tally_few (is_seen canvas v top (y - top)) 0 16, shown_next canvas v y, seen_one canvas v y)

pub same_band : (canvas : Canvas) (top y most more : ℕ) → top ≤ y → ((v : ℕ) → length (filter (is_again canvas v y top (y - top)) (range_with_len 0 16)) ≤ more) → IsMost canvas top y most → IsMost canvas top (y + 1) (most + more)
same_band canvas top y most more le few so = λ v.
    let n : ℕ = y - top in
    let next : y + 1 - top ≡ suc n = omega (arith, le) in
    let place : top + n ≡ y = omega (arith, le) in
    let seen : tally (is_seen canvas v top (y + 1 - top)) 0 16 ≡ tally (λ x. is_seen canvas v top n x || (canvas x y == v)) 0 16 =
    ap (λ k. tally (is_seen canvas v top k) 0 16) next ∙ ap (λ r. tally (λ x. is_seen canvas v top n x || (canvas x r == v)) 0 16) place in
    omega (arith, so v, few v, seen, both_or (λ x. canvas x y == v) (is_seen canvas v top n) 0 16, tally_filter (is_again canvas v y top n) 0 16, shown_next canvas v y)

pub most_of : (canvas : Canvas) (top y most : ℕ) → IsMost canvas top y most → (v : ℕ) → shown_in canvas v y ≤ most
most_of canvas top y most so v = omega (arith, so v, tally_few (is_seen canvas v top (y - top)) 0 16)

-- How many positions pass a test. `is_crowded` counts those at which subrectangles begin.
use Rattle.std.proofs.Common.{◌≡◌, ℕ, zero, suc, Bool, true, false, cond, List, [], ◌∷◌, length, get_or, refl, sym, ap, ◌∙◌, ◌+◌, ◌*◌, ◌/◌, ◌%◌, ◌^◌, ◌<◌, ◌≤◌, ◌⊎◌, inl, inr, arith}
use Rattle.std.specs.Prelude.{filter, ◌==◌, count_ones}
use Rattle.std.specs.Int.{bit_at}
use Rattle.std.specs.List.{range_with_len}
use Rattle.std.proofs.lemmas.Bool.{eq-eqb, eqb-true}
use Rattle.std.proofs.lemmas.Nat.{ones_cat, ones_le_self, div-add-mod'}
use Rattle.std.proofs.lemmas.Simd.{ones-mask_l_cons}
use Rattle.std.proofs.lemmas.Nat.Bits.{bit_at_lowest, bit_at-suc}
use Rattle.joined_runs.specs.Joined.{count_of}
use Rattle.hextile_codec.specs.Bits.{bit_of}

-- Of n positions from a on.
abbrev pub tally : (ℕ → Bool) → ℕ → ℕ → ℕ
tally p a zero = 0
tally p a (suc n) = bit_of (p a) + tally p (a + 1) n

filter_first : (p : ℕ → Bool) (x : ℕ) (xs : List ℕ) (b : Bool) → p x ≡ b → length (cond b (x ∷ filter p xs) (filter p xs)) ≡ bit_of b + length (filter p xs)
filter_first p x xs true e = omega arith
filter_first p x xs false e = omega arith

pub tally_filter : (p : ℕ → Bool) (a n : ℕ) → length (filter p (range_with_len a n)) ≡ tally p a n
tally_filter p a zero = refl
tally_filter p a (suc n) = filter_first p a (range_with_len (a + 1) n) (p a) refl ∙ ap (λ m. bit_of (p a) + m) (tally_filter p (a + 1) n)

-- The elements of a list are counted at their positions.
pub tally_list : (f : ℕ → Bool) (xs : List ℕ) (g : ℕ → ℕ) (a : ℕ) → ((k : ℕ) → k < length xs → get_or xs k 0 ≡ g (a + k)) → length (filter f xs) ≡ tally (λ x. f (g x)) a (length xs)
tally_list f [] g a same = refl
tally_list f (x ∷ xs) g a same =
    let here : a + 0 ≡ a = omega arith in
    let first : x ≡ g a = same 0 (omega arith) ∙ ap g here in
    filter_first f x xs (f x) refl
    ∙ (ap (λ v. bit_of (f v) + length (filter f xs)) first
    ∙ ap (λ m. bit_of (f (g a)) + m) (tally_list f xs g (a + 1) (λ k lt. same (suc k) (omega (arith, lt)) ∙ (let place : a + suc k ≡ a + 1 + k = omega arith in ap g place))))

bit_few : (b : Bool) → bit_of b ≤ 1
bit_few true = omega arith
bit_few false = omega arith

pub tally_few : (p : ℕ → Bool) (a n : ℕ) → tally p a n ≤ n
tally_few p a zero = omega arith
tally_few p a (suc n) = omega (arith, bit_few (p a), tally_few p (a + 1) n)

bit_split : (p q r : Bool) → (p ≡ true → (q ≡ true) ⊎ (r ≡ true)) → bit_of p ≤ bit_of q + bit_of r
bit_split false q r f = omega arith
bit_split true true r f = omega arith
bit_split true false true f = omega arith
bit_split true false false f = by_case (f refl)
  where
    by_case : (false ≡ true) ⊎ (false ≡ true) → bit_of true ≤ bit_of false + bit_of false
    by_case (inl e) = absurd cc
    by_case (inr e) = absurd cc

-- What passes a test passes one of two others.
pub tally_split : (p q r : ℕ → Bool) (a n : ℕ) → ((x : ℕ) → a ≤ x → x < a + n → p x ≡ true → (q x ≡ true) ⊎ (r x ≡ true)) → tally p a n ≤ tally q a n + tally r a n
tally_split p q r a zero f = omega arith
tally_split p q r a (suc n) f =
    let here = bit_split (p a) (q a) (r a) (f a (omega arith) (omega arith)) in
    let rest = tally_split p q r (a + 1) n (λ x lo hi. f x (omega (arith, lo)) (omega (arith, hi))) in
    omega (arith, here, rest)

bit_within : (p q : Bool) → (p ≡ true → q ≡ true) → bit_of p ≤ bit_of q
bit_within false q f = omega arith
bit_within true true f = omega arith
bit_within true false f = absurd (let e : false ≡ true = f refl in cc)

pub tally_within : (p q : ℕ → Bool) (a n : ℕ) → ((x : ℕ) → a ≤ x → x < a + n → p x ≡ true → q x ≡ true) → tally p a n ≤ tally q a n
tally_within p q a zero f = omega arith
tally_within p q a (suc n) f =
    let here = bit_within (p a) (q a) (f a (omega arith) (omega arith)) in
    let rest = tally_within p q (a + 1) n (λ x lo hi. f x (omega (arith, lo)) (omega (arith, hi))) in
    omega (arith, here, rest)

-- ---- the bits of a word

ones_zero : count_ones 0 ≡ 0
ones_zero = omega (arith, ones_le_self 0)

ones_bit : (b : Bool) → count_ones (bit_of b) ≡ bit_of b
ones_bit true = ones-mask_l_cons true [] ∙ omega (arith, ones_zero)
ones_bit false = ones_zero

pub tally_ones : (p : ℕ → Bool) (a n m : ℕ) → m < 2 ^ n → ((x : ℕ) → x < n → bit_at m x ≡ bit_of (p (a + x))) → count_ones m ≡ tally p a n
tally_ones p a zero m lt bits = let none : m ≡ 0 = omega (arith, lt) in ap count_ones none ∙ ones_zero
tally_ones p a (suc n) m lt bits =
    let half : ℕ = m / 2 in
    let low : m % 2 ≡ bit_of (p a) = sym (bit_at_lowest m) ∙ (bits 0 (omega arith) ∙ (let here : a + 0 ≡ a = omega arith in ap (λ k. bit_of (p k)) here)) in
    let parts : half * 2 ^ 1 + bit_of (p a) ≡ m = ap (λ r. half * 2 + r) (sym low) ∙ div-add-mod' m 2 in
    let double : 2 ^ suc n ≡ 2 ^ n * 2 = omega arith in
    let less : half < 2 ^ n = omega (arith, parts, lt, double) in
    let rest : count_ones half ≡ tally p (a + 1) n =
    tally_ones p (a + 1) n half less
    (λ x lx. sym (bit_at-suc m x) ∙ (bits (suc x) (omega (arith, lx)) ∙ (let place : a + suc x ≡ a + 1 + x = omega arith in ap (λ k. bit_of (p k)) place))) in
    ap count_ones (sym parts)
    ∙ (ones_cat 1 half (bit_of (p a)) (omega (arith, bit_few (p a))) ∙ (ap (λ k. k + count_ones (bit_of (p a))) rest ∙ (ap (λ k. tally p (a + 1) n + k) (ones_bit (p a)) ∙ omega arith)))

-- ---- different values

pub apart : (a b v : ℕ) → (a == b) ≡ false → bit_of (a == v) + bit_of (b == v) ≤ 1
apart a b v ne = by_test (a == v) (b == v) refl refl
  where
    by_test : (p q : Bool) → (a == v) ≡ p → (b == v) ≡ q → bit_of p + bit_of q ≤ 1
    by_test true true e f =
        let same : a ≡ b = eqb-true a v e ∙ sym (eqb-true b v f) in
        absurd (let no : (a == b) ≡ true = eq-eqb a b same in cc)
    by_test true false e f = omega arith
    by_test false true e f = omega arith
    by_test false false e f = omega arith

pub one_of_four : (a b c d : Bool) → bit_of a + bit_of b ≤ 1 → bit_of a + bit_of c ≤ 1 → bit_of a + bit_of d ≤ 1 → bit_of b + bit_of c ≤ 1 → bit_of b + bit_of d ≤ 1 → bit_of c + bit_of d ≤ 1
    → bit_of a + (bit_of b + (bit_of c + bit_of d)) ≤ 1
one_of_four true true c d ab ac ad bc bd cd = absurd (omega (arith, ab))
one_of_four true false true d ab ac ad bc bd cd = absurd (omega (arith, ac))
one_of_four true false false true ab ac ad bc bd cd = absurd (omega (arith, ad))
one_of_four true false false false ab ac ad bc bd cd = omega arith
one_of_four false true true d ab ac ad bc bd cd = absurd (omega (arith, bc))
one_of_four false true false true ab ac ad bc bd cd = absurd (omega (arith, bd))
one_of_four false true false false ab ac ad bc bd cd = omega arith
one_of_four false false true true ab ac ad bc bd cd = absurd (omega (arith, cd))
one_of_four false false true false ab ac ad bc bd cd = omega arith
one_of_four false false false true ab ac ad bc bd cd = omega arith
one_of_four false false false false ab ac ad bc bd cd = omega arith

-- At most one of four positions each of a row of 16.
pub four_fours : (row : List ℕ) (v : ℕ) → length row ≡ 16
    → bit_of (get_or row 0 0 == v) + (bit_of (get_or row 4 0 == v) + (bit_of (get_or row 8 0 == v) + bit_of (get_or row 12 0 == v))) ≤ 1
    → bit_of (get_or row 1 0 == v) + (bit_of (get_or row 5 0 == v) + (bit_of (get_or row 9 0 == v) + bit_of (get_or row 13 0 == v))) ≤ 1
    → bit_of (get_or row 2 0 == v) + (bit_of (get_or row 6 0 == v) + (bit_of (get_or row 10 0 == v) + bit_of (get_or row 14 0 == v))) ≤ 1
    → bit_of (get_or row 3 0 == v) + (bit_of (get_or row 7 0 == v) + (bit_of (get_or row 11 0 == v) + bit_of (get_or row 15 0 == v))) ≤ 1 → count_of row v ≤ 4
four_fours row v size a b c d =
    let counted : count_of row v ≡ tally (λ x. get_or row x 0 == v) 0 16 =
    tally_list (λ u. u == v) row (λ k. get_or row k 0) 0 (λ k lt. let same : 0 + k ≡ k = omega arith in ap (λ i. get_or row i 0) (sym same)) ∙ ap (tally (λ x. get_or row x 0 == v) 0) size in
    omega (arith, counted, a, b, c, d)

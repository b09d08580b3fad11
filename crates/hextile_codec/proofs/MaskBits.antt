-- Bits of a mask of tests. `mark_row` compares a row's values by such a mask.
use Rattle.std.proofs.Common.{◌≡◌, ℕ, zero, suc, Bool, true, false, not, cond, min, max, ◌&&◌, ◌||◌, List, ◌∷◌, ◌++◌, length, get_or, eqb, refl, sym, ap, ◌∙◌, ◌+◌, ◌-◌, ◌<◌, arith}
use Rattle.std.specs.Int.{bit_at}
use Rattle.std.specs.List.{range_with_len}
use Rattle.std.specs.Prelude.{replicate}
use Rattle.std.proofs.lemmas.Simd.{get_or-replicate, bit_mask_l, get_or-zip2, pick_l-range_with_len, get_or-chunk}
use Rattle.std.proofs.lemmas.List.{get_or_append_left, length-append}
use Rattle.std.proofs.lemmas.Nat.Bits.{bit_at_and, bit_at_or, bit_at-lt, bit_at-pow_same, bit_at-pow_other}
use Rattle.std.specs.Int.Bits.{bit_and, bit_or}
use Rattle.std.proofs.lemmas.Bool.{ne_eqb}
use lib.Lanes.{mask_l, zip2, pick_l}
use Rattle.hextile_codec.specs.Bits.{bit_of}

-- A row of 16, each of its values one further to the right.
abbrev pub turned : List ℕ → List ℕ
turned row = pick_l 0 (row ++ row) (15 ∷ range_with_len 0 15)

pub turned_at : (row : List ℕ) (x : ℕ) → length row ≡ 16 → 0 < x → x < 16 → get_or (turned row) x 0 ≡ get_or row (x - 1) 0
turned_at row zero size some lt = absurd (omega arith)
turned_at row (suc x) size some lt =
    let place : 0 + x ≡ x = omega arith in
    let back : suc x - 1 ≡ x = omega arith in
    ap (λ l. get_or l x 0) (pick_l-range_with_len 0 (row ++ row) 0 15 (omega (arith, size, length-append row row)))
    ∙ (get_or-chunk 0 15 (row ++ row) x 0 (omega arith) ∙ (ap (λ k. get_or (row ++ row) k 0) place ∙ (get_or_append_left row row 0 x (omega (arith, size)) ∙ ap (λ k. get_or row k 0) (sym back))))

abbrev pub differ : ℕ → ℕ → Bool
differ a b = not (eqb a b)

pub zip_bit : (row other : List ℕ) (x : ℕ) → length row ≡ 16 → length other ≡ 16 → x < 16 → bit_at (mask_l (zip2 differ row other)) x ≡ bit_of (differ (get_or row x 0) (get_or other x 0))
zip_bit row other x size same lt =
    bit_mask_l (zip2 differ row other) x ∙ ap (λ b. cond b 1 0) (get_or-zip2 differ row other x 0 0 false (omega (arith, size)) (omega (arith, same)))

-- ---- bits put together

pub no_more : (a b : ℕ) → b ≡ 0 → max a b ≡ a
no_more a b e = omega (arith, e)

pub both_bits : (a b : Bool) → min (bit_of a) (bit_of b) ≡ bit_of (a && b)
both_bits true true = refl
both_bits true false = refl
both_bits false true = refl
both_bits false false = refl

-- A run begins at a position that is not of the background, where it is the first or another value stands before.
pub begin_bits : (others changes bg v before x : ℕ) → bit_at others x ≡ bit_of (differ v bg) → (0 < x → bit_at changes x ≡ bit_of (differ before v)) → bit_at (bit_and others (bit_or changes 1)) x ≡ bit_of (differ v bg && (eqb x 0 || differ before v))
begin_bits others changes bg v before zero o c =
    let one : bit_at (bit_or changes 1) 0 ≡ 1 = bit_at_or changes 1 0 ∙ (let lt = bit_at-lt changes 0 in let b = bit_at-pow_same 0 in omega (arith, lt, b)) in
    bit_at_and others (bit_or changes 1) 0 ∙ (ap (λ k. min (bit_at others 0) k) one ∙ (ap (λ k. min k 1) o ∙ both_bits (differ v bg) true))
begin_bits others changes bg v before (suc x) o c =
    let same : bit_at (bit_or changes 1) (suc x) ≡ bit_of (differ before v) = bit_at_or changes 1 (suc x) ∙ (no_more (bit_at changes (suc x)) (bit_at 1 (suc x)) (bit_at-pow_other 0 (suc x) (λ e. absurd (omega (arith, e)))) ∙ c (omega arith)) in
    let not_first : eqb (suc x) 0 ≡ false = ne_eqb (suc x) 0 (λ e. absurd (omega (arith, e))) in
    rw not_first
    (bit_at_and others (bit_or changes 1) (suc x) ∙ (ap (λ k. min (bit_at others (suc x)) k) same ∙ (ap (λ k. min k (bit_of (differ before v))) o ∙ both_bits (differ v bg) (differ before v))))

pub splat_at : (v x : ℕ) → x < 16 → get_or (replicate 16 v) x 0 ≡ v
splat_at v x lt = get_or-replicate 16 x v 0 lt

-- The most frequent value of a whole tile, found by the positions that show another. `find_most_marked` takes the values
-- in the order of their first positions.
use Rattle.std.proofs.Common.{◌≡◌, ℕ, zero, suc, min, Bool, true, false, ◌&&◌, not, List, [], ◌∷◌, length, get_or, refl, sym, ap, ◌∙◌, ◌+◌, ◌-◌, ◌*◌, ◌/◌, ◌%◌, ◌^◌, ◌<◌, ◌≤◌, ◌⊎◌, w64, inl, inr, arith}
use Rattle.std.specs.Prelude.{◌==◌, count_ones}
use Rattle.std.specs.Int.{bit_at, trailing_zeros}
use Rattle.std.specs.Int.Bits.{bit_and}
use Rattle.std.proofs.lemmas.Bool.{cases_lt, and_parts, eq-eqb, eqb-true}
use Rattle.std.proofs.lemmas.Nat.{and_le_l, div-mul-add, mod-mul-add}
use Rattle.std.proofs.lemmas.Nat.Bits.{bit_at_and, bit_at-lt, bit_at-trailing_zeros, bit_at-zero}
use Rattle.std.proofs.Math.Nat.{mod-lt, mod-add-div'}
use Rattle.raster.specs.Screen.{Canvas, values_of}
use Rattle.raster.proofs.Places.{length_values, values_at}
use Rattle.joined_runs.specs.Joined.{count_of, most_frequent}
use Rattle.hextile_codec.specs.Bits.{bit_of}
use Rattle.hextile_codec.specs.Breaks.{mark_at}
use Rattle.hextile_codec.specs.Places.{AreOthers, IsFirst}
use Rattle.hextile_codec.proofs.BreakBits.{mark_here}
use Rattle.hextile_codec.proofs.LeftBits.{bit_false}
use Rattle.hextile_codec.proofs.MostFound.{best_is}
use Rattle.hextile_codec.proofs.RowMarks.{by_four}
use Rattle.hextile_codec.proofs.Shown.{tally_not}
use Rattle.hextile_codec.proofs.Tallies.{tally, tally_list, tally_ones, tally_within}

-- ---- positions, counted row after row

-- The bit of position p.
abbrev pub place_bit : List ℕ → ℕ → ℕ
place_bit words p = mark_at words (p / 16) (p % 16)

pub word_bit : (words : List ℕ) (k t : ℕ) → t < 64 → place_bit words (64 * k + t) ≡ bit_at (get_or words k 0) t
word_bit words k t lt =
    let split = mod-add-div' t 16 in
    let whole : 16 * (t / 16) + t % 16 ≡ t = omega (arith, split) in
    let low : t % 16 < 16 = mod-lt t (omega arith) in
    let parts : 64 * k + t ≡ (4 * k + t / 16) * 16 + t % 16 = omega (arith, whole) in
    let row : (64 * k + t) / 16 ≡ 4 * k + t / 16 = ap (λ n. n / 16) parts ∙ div-mul-add (4 * k + t / 16) 16 (t % 16) low in
    let column : (64 * k + t) % 16 ≡ t % 16 = ap (λ n. n % 16) parts ∙ mod-mul-add (4 * k + t / 16) 16 (t % 16) low in
    let place : t / 16 * 16 + t % 16 ≡ t = omega (arith, whole) in
    ap (λ y. mark_at words y ((64 * k + t) % 16)) row ∙ (ap (mark_at words (4 * k + t / 16)) column ∙ (mark_here words k (t / 16) (t % 16) (omega (arith, whole, lt)) ∙ ap (bit_at (get_or words k 0)) place))

-- Position p lies in word p / 64.
pub its_word : (words : List ℕ) (p : ℕ) → place_bit words p ≡ bit_at (get_or words (p / 64) 0) (p % 64)
its_word words p =
    let split = mod-add-div' p 64 in
    let whole : 64 * (p / 64) + p % 64 ≡ p = omega (arith, split) in
    ap (place_bit words) (sym whole) ∙ word_bit words (p / 64) (p % 64) (mod-lt p (omega arith))

pub place_few : (words : List ℕ) (p : ℕ) → place_bit words p < 2
place_few words p = bit_at-lt (get_or words (p / 16 / 4) 0) (p / 16 % 4 * 16 + p % 16)

-- The lowest bit of the first word that has one.
pub first_in : (words : List ℕ) (k : ℕ) → k < 4 → ((k : ℕ) → k < 4 → get_or words k 0 < 2 ^ 64) → ((j : ℕ) → j < k → get_or words j 0 ≡ 0) → 0 < get_or words k 0 → IsFirst words (64 * k + trailing_zeros w64 (get_or words k 0))
first_in words k lk few empty some =
    let word : ℕ = get_or words k 0 in
    let t : ℕ = trailing_zeros w64 word in
    let b = bit_at-trailing_zeros w64 word some (few k lk) in
    let low : t < 64 = b.0 in
    record {
      inside = omega (arith, lk, low);
      one = word_bit words k t low ∙ b.1;
      none = λ p lt.
          let split = mod-add-div' p 64 in
          let whole : 64 * (p / 64) + p % 64 ≡ p = omega (arith, split) in
          its_word words p ∙ elim (cases_lt (p / 64) k) [
            | inl less ↦ ap (λ n. bit_at n (p % 64)) (empty (p / 64) less) ∙ bit_at-zero (p % 64)
            | inr ge ↦
                let same : p / 64 ≡ k = omega (arith, whole, lt, ge, low) in
                let before : p % 64 < t = omega (arith, whole, lt, same) in
                ap (λ j. bit_at (get_or words j 0) (p % 64)) same ∙ b.2 (p % 64) before
          ];
    }

-- ---- how many

tally_more : (q : ℕ → Bool) (a n m : ℕ) → tally q a (n + m) ≡ tally q a n + tally q (a + n) m
tally_more q a zero m = let none : zero + m ≡ m = omega arith in let here : a + zero ≡ a = omega arith in let same = ap (λ b. tally q b m) here in ap (tally q a) none ∙ omega (arith, same)
tally_more q a (suc n) m =
    let count : suc n + m ≡ suc (n + m) = omega arith in
    let place : a + 1 + n ≡ a + suc n = omega arith in
    let rest = tally_more q (a + 1) n m in
    let same = ap (λ b. tally q b m) place in
    ap (tally q a) count ∙ omega (arith, rest, same)

sum_four : (a b c d t u v w low mid whole : ℕ) → a ≡ t → b ≡ u → c ≡ v → d ≡ w → whole ≡ t + low → low ≡ u + mid → mid ≡ v + w → a + b + c + d ≡ whole
sum_four a b c d t u v w low mid whole p q r s x y z = omega arith

pub words_tally : (q : ℕ → Bool) (words : List ℕ) → ((k : ℕ) → k < 4 → get_or words k 0 < 2 ^ 64) → ((p : ℕ) → p < 256 → place_bit words p ≡ bit_of (q p))
    → count_ones (get_or words 0 0) + count_ones (get_or words 1 0) + count_ones (get_or words 2 0) + count_ones (get_or words 3 0) ≡ tally q 0 256
words_tally q words few bits =
    let one : (k : ℕ) → k < 4 → count_ones (get_or words k 0) ≡ tally q (64 * k) 64 =
    λ k lk. tally_ones q (64 * k) 64 (get_or words k 0) (few k lk) (λ t lt. sym (word_bit words k t lt) ∙ bits (64 * k + t) (omega (arith, lk, lt))) in
    sum_four (count_ones (get_or words 0 0)) (count_ones (get_or words 1 0)) (count_ones (get_or words 2 0)) (count_ones (get_or words 3 0)) (tally q 0 64) (tally q 64 64) (tally q 128 64) (tally q 192 64) (tally q 64 192) (tally q 128 128) (tally q 0 256)
    (one 0 (omega arith)) (one 1 (omega arith)) (one 2 (omega arith)) (one 3 (omega arith)) (tally_more q 0 64 192) (tally_more q 64 64 128) (tally_more q 128 64 64)

-- Of the first positions one passes a test, or none does.
one_or_none : (q : ℕ → Bool) (n : ℕ) → ((k : ℕ) × (k < n) × (q k ≡ true)) ⊎ ((k : ℕ) → k < n → q k ≡ false)
one_or_none q zero = inr (λ k lt. absurd (omega (arith, lt)))
one_or_none q (suc n) = elim (one_or_none q n) [
  | inl s ↦ let before = s.1 in inl (s.0, omega (arith, before), s.2)
  | inr none ↦ by_last none (q n) refl
]
  where
    by_last : ((k : ℕ) → k < n → q k ≡ false) → (b : Bool) → q n ≡ b → ((k : ℕ) × (k < suc n) × (q k ≡ true)) ⊎ ((k : ℕ) → k < suc n → q k ≡ false)
    by_last none true e = inl (n, omega arith, e)
    by_last none false e = inr (λ k lt. elim (cases_lt k n) [
      | inl less ↦ none k less
      | inr ge ↦ let same : k ≡ n = omega (arith, lt, ge) in ap q same ∙ e
    ])

module _ (canvas : Canvas) where
  abbrev all : List ℕ
  all = values_of 16 16 canvas

  -- The value at position p.
  abbrev pub shown : ℕ → ℕ
  shown p = canvas (p % 16) (p / 16)

  abbrev pub count : ℕ → ℕ
  count u = count_of all u

  whole : length all ≡ 256
  whole = length_values 16 16 canvas

  in_row : (p : ℕ) → p < 256 → p / 16 < 16
  in_row p lt = let split = mod-add-div' p 16 in omega (arith, split, lt)

  value_here : (p : ℕ) → p < 256 → get_or all p 0 ≡ shown p
  value_here p lt =
      let split = mod-add-div' p 16 in
      let place : p / 16 * 16 + p % 16 ≡ p = omega (arith, split) in
      ap (λ k. get_or all k 0) (sym place) ∙ values_at 16 16 canvas (p % 16) (p / 16) (mod-lt p (omega arith)) (in_row p lt)

  counted : (u : ℕ) → count u ≡ tally (λ p. shown p == u) 0 256
  counted u =
      tally_list (λ v. v == u) all shown 0 (λ p lt. value_here p (omega (arith, lt, whole)) ∙ (let here : p ≡ 0 + p = omega arith in ap shown here)) ∙ ap (tally (λ p. shown p == u) 0) whole

  other_bit : (v : ℕ) (words : List ℕ) → AreOthers canvas v words → (p : ℕ) → p < 256 → place_bit words p ≡ bit_of (not (shown p == v))
  other_bit v words are p lt = are.bits (p / 16) (p % 16) (in_row p lt) (mod-lt p (omega arith))

  less_others : (bits ones n t c : ℕ) → bits ≡ ones → ones ≡ n → t + n ≡ 256 → c ≡ t → 256 - bits ≡ c
  less_others bits ones n t c p q r s = omega arith

  -- A value shows where no other does.
  pub shown_count : (v bits : ℕ) (words : List ℕ) → AreOthers canvas v words → bits ≡ count_ones (get_or words 0 0) + count_ones (get_or words 1 0) + count_ones (get_or words 2 0) + count_ones (get_or words 3 0) → 256 - bits ≡ count v
  shown_count v bits words are is =
      less_others bits (count_ones (get_or words 0 0) + count_ones (get_or words 1 0) + count_ones (get_or words 2 0) + count_ones (get_or words 3 0)) (tally (λ p. not (shown p == v)) 0 256) (tally (λ p. shown p == v) 0 256) (count v) is
      (words_tally (λ p. not (shown p == v)) words are.few (other_bit v words are)) (tally_not (λ p. shown p == v) 0 256) (counted v)

  -- ---- the best of those that were counted

  pub record IsBestOf (best most : ℕ) (left : List ℕ) : Type 0 where
    pub first : ℕ
    pub inside : first < 256
    pub is : shown first ≡ best
    pub counts : most ≡ count best
    pub before : (k : ℕ) → k < first → count (shown k) < most
    pub covered : (k : ℕ) → k < 256 → place_bit left k ≡ 0 → count (shown k) ≤ most
    pub few : (k : ℕ) → k < 4 → get_or left k 0 < 2 ^ 64

  -- Where no other value shows, it does.
  no_other : (v : ℕ) (words : List ℕ) → AreOthers canvas v words → (p : ℕ) → p < 256 → place_bit words p ≡ 0 → shown p ≡ v
  no_other v words are p lt e = eqb-true (shown p) v (not_not (shown p == v) (bit_false (not (shown p == v)) (sym (other_bit v words are p lt) ∙ e)))
    where
      not_not : (b : Bool) → not b ≡ false → b ≡ true
      not_not true e = refl
      not_not false e = absurd cc

  pub first_best : (v most : ℕ) (words : List ℕ) → AreOthers canvas v words → canvas 0 0 ≡ v → most ≡ count v → IsBestOf v most words
  first_best v most words are front is =
      record {
        first = 0;
        inside = omega arith;
        is = front;
        counts = is;
        before = λ k lt. absurd (omega (arith, lt));
        covered = λ k lt e. let same = ap count (no_other v words are k lt e) in omega (arith, same, is);
        few = are.few;
      }

  abbrev pub both_words : List ℕ → List ℕ → List ℕ
  both_words a b = bit_and (get_or a 0 0) (get_or b 0 0) ∷ bit_and (get_or a 1 0) (get_or b 1 0) ∷ bit_and (get_or a 2 0) (get_or b 2 0) ∷ bit_and (get_or a 3 0) (get_or b 3 0) ∷ []

  both_word : (a b : List ℕ) (k : ℕ) → k < 4 → get_or (both_words a b) k 0 ≡ bit_and (get_or a k 0) (get_or b k 0)
  both_word a b k lk = by_four (λ k. get_or (both_words a b) k 0 ≡ bit_and (get_or a k 0) (get_or b k 0)) refl refl refl refl k lk

  word_of : (p : ℕ) → p < 256 → p / 64 < 4
  word_of p lt = let split = mod-add-div' p 64 in omega (arith, split, lt)

  both_bit : (a b : List ℕ) (p : ℕ) → p < 256 → place_bit (both_words a b) p ≡ min (place_bit a p) (place_bit b p)
  both_bit a b p lt =
      let one = its_word a p in
      let two = its_word b p in
      let both : place_bit (both_words a b) p ≡ min (bit_at (get_or a (p / 64) 0) (p % 64)) (bit_at (get_or b (p / 64) 0) (p % 64)) =
      its_word (both_words a b) p ∙ (ap (λ n. bit_at n (p % 64)) (both_word a b (p / 64) (word_of p lt)) ∙ bit_at_and (get_or a (p / 64) 0) (get_or b (p / 64) 0) (p % 64)) in
      omega (arith, one, two, both)

  both_few : (a b : List ℕ) → ((k : ℕ) → k < 4 → get_or a k 0 < 2 ^ 64) → (k : ℕ) → k < 4 → get_or (both_words a b) k 0 < 2 ^ 64
  both_few a b few k lk = let le = and_le_l (get_or a k 0) (get_or b k 0) in let fits = few k lk in let same = both_word a b k lk in omega (arith, le, fits, same)

  -- ---- the next value

  module _ (best most : ℕ) (left : List ℕ) (b : IsBestOf best most left) (v times : ℕ) (words : List ℕ) (are : AreOthers canvas v words) (is : times ≡ count v) where
    abbrev now : List ℕ
    now = both_words left words

    now_covered : (top : ℕ) → most ≤ top → times ≤ top → (k : ℕ) → k < 256 → place_bit now k ≡ 0 → count (shown k) ≤ top
    now_covered top a c k lt e =
        let both = both_bit left words k lt in
        elim (cases_lt 0 (place_bit left k)) [
          | inl some ↦
              let none : place_bit words k ≡ 0 = omega (arith, both, e, some) in
              let same = ap count (no_other v words are k lt none) in
              omega (arith, same, is, c)
          | inr none ↦ let known = b.covered k lt (omega (arith, none)) in omega (arith, known, a)
        ]

    pub not_better : times ≤ most → IsBestOf best most now
    not_better le =
        record {
          first = b.first;
          inside = b.inside;
          is = b.is;
          counts = b.counts;
          before = b.before;
          covered = now_covered most (omega arith) le;
          few = both_few left words b.few;
        }

    pub better : (at : ℕ) → IsFirst left at → shown at ≡ v → most < times → IsBestOf v times now
    better at first here more =
        record {
          first = at;
          inside = first.inside;
          is = here;
          counts = is;
          before = λ k lt. let known = b.covered k (let inside = first.inside in omega (arith, lt, inside)) (first.none k lt) in omega (arith, known, more);
          covered = now_covered times (omega (arith, more)) (omega arith);
          few = both_few left words b.few;
        }

    -- Fewer are left.
    abbrev pub sum_of : List ℕ → ℕ
    sum_of ws = get_or ws 0 0 + get_or ws 1 0 + get_or ws 2 0 + get_or ws 3 0

    pub less_left : (at : ℕ) → IsFirst left at → shown at ≡ v → sum_of now < sum_of left
    less_left at first here =
        let a = and_le_l (get_or left 0 0) (get_or words 0 0) in
        let c = and_le_l (get_or left 1 0) (get_or words 1 0) in
        let d = and_le_l (get_or left 2 0) (get_or words 2 0) in
        let e = and_le_l (get_or left 3 0) (get_or words 3 0) in
        elim (cases_lt (sum_of now) (sum_of left)) [
          | inl lt ↦ lt
          | inr ge ↦
              let same : (k : ℕ) → k < 4 → get_or now k 0 ≡ get_or left k 0 = by_four (λ k. get_or now k 0 ≡ get_or left k 0) (omega (arith, a, c, d, e, ge)) (omega (arith, a, c, d, e, ge)) (omega (arith, a, c, d, e, ge)) (omega (arith, a, c, d, e, ge)) in
              let inside = first.inside in
              let one : place_bit left at ≡ 1 = first.one in
              let kept : place_bit now at ≡ place_bit left at = its_word now at ∙ (ap (λ n. bit_at n (at % 64)) (same (at / 64) (word_of at inside)) ∙ sym (its_word left at)) in
              let its : (shown at == v) ≡ true = eq-eqb (shown at) v here in
              let none : place_bit words at ≡ 0 = other_bit v words are at inside ∙ ap (λ b. bit_of (not b)) its in
              let both = both_bit left words at inside in
              absurd (omega (arith, one, kept, none, both))
        ]

  -- ---- none is better

  pub best_of_all : (best most bits : ℕ) (left : List ℕ) → IsBestOf best most left → bits ≡ count_ones (get_or left 0 0) + count_ones (get_or left 1 0) + count_ones (get_or left 2 0) + count_ones (get_or left 3 0) → bits ≤ most → best ≡ most_frequent all
  best_of_all best most bits left b is le =
      best_is all 256 best most
      (record {
        first = b.first;
        below = b.inside;
        upto = omega (arith, whole);
        is = value_here b.first b.inside ∙ b.is;
        count = b.counts;
        before = λ k lt. let less = b.before k lt in let inside = b.inside in let same = ap count (value_here k (omega (arith, lt, inside))) in omega (arith, less, same);
        so_far = λ k lt. let same = ap count (value_here k lt) in let few = no_more_of (shown k) in omega (arith, same, few);
      })
      no_more_of
    where
      is_left : ℕ → Bool
      is_left p = place_bit left p == 1

      left_bit : (p : ℕ) → place_bit left p ≡ bit_of (is_left p)
      left_bit p = by_bit (place_bit left p) (place_few left p)
        where
          by_bit : (n : ℕ) → n < 2 → n ≡ bit_of (n == 1)
          by_bit zero lt = refl
          by_bit (suc zero) lt = refl
          by_bit (suc (suc n)) lt = absurd (omega (arith, lt))

      at_most : (c t n ones bits most : ℕ) → c ≡ t → t ≤ n → ones ≡ n → bits ≡ ones → bits ≤ most → c ≤ most
      at_most c t n ones bits most p q r s l = omega arith

      no_more_of : (u : ℕ) → count u ≤ most
      no_more_of u = elim (one_or_none (λ p. (shown p == u) && not (is_left p)) 256) [
        | inl s ↦
            let both = and_parts (shown s.0 == u) (not (is_left s.0)) s.2 in
            let here : shown s.0 ≡ u = eqb-true (shown s.0) u both.0 in
            let gone : place_bit left s.0 ≡ 0 = left_bit s.0 ∙ unset (is_left s.0) both.1 in
            let known = b.covered s.0 s.1 gone in
            let same = ap count here in
            omega (arith, known, same)
        | inr none ↦
            at_most (count u) (tally (λ p. shown p == u) 0 256) (tally is_left 0 256) (count_ones (get_or left 0 0) + count_ones (get_or left 1 0) + count_ones (get_or left 2 0) + count_ones (get_or left 3 0)) bits most (counted u)
            (tally_within (λ p. shown p == u) is_left 0 256 (λ p lo hi e. kept (shown p == u) (is_left p) e (none p hi))) (words_tally is_left left b.few (λ p lt. left_bit p)) is le
      ]
        where
          unset : (b : Bool) → not b ≡ true → bit_of b ≡ 0
          unset true e = absurd cc
          unset false e = refl

          kept : (a b : Bool) → a ≡ true → (a && not b) ≡ false → b ≡ true
          kept true true e f = refl
          kept true false e f = absurd cc
          kept false b e f = absurd cc

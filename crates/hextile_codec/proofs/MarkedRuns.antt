-- The runs of four rows, found by the bits of their first positions and of their ends.
use Rattle.std.proofs.Common.{◌≡◌, ℕ, zero, suc, Bool, true, false, not, cond, List, [], ◌∷◌, ◌++◌, length, map, refl, sym, ap, ◌∙◌, ◌+◌, ◌-◌, ◌*◌, ◌/◌, ◌%◌, ◌^◌, ◌<◌, ◌≤◌, append_assoc, w64, inl, inr, arith}
use Rattle.std.specs.Prelude.{filter, ◌==◌}
use Rattle.std.specs.List.{range_with_len}
use Rattle.std.specs.Int.{bit_at, trailing_zeros}
use Rattle.std.proofs.lemmas.Bool.{cases_lt, eq-eqb, eqb-true}
use Rattle.std.proofs.lemmas.List.{map-append}
use Rattle.std.proofs.lemmas.List.Elements.{filter-append}
use Rattle.std.proofs.lemmas.Nat.{div-mul-add, mod-mul-add}
use Rattle.std.proofs.lemmas.Nat.Bits.{bit_at-trailing_zeros, bit_at-zero}
use Rattle.std.proofs.Math.Nat.{div-le_self, mod-lt, mod-add-div'}
use Rattle.raster.specs.Screen.{Canvas}
use Rattle.raster.specs.Encoding.{Subrect, begins_run, run_from, runs_of_row}
use Rattle.raster.proofs.Runs.{run_within, front_passes, front_stops}
use Rattle.hextile_codec.specs.declared.runs.Run.{Run}
use Rattle.hextile_codec.specs.declared.marking.Marks.{Marks}
use Rattle.hextile_codec.specs.Bits.{bit_of}
use Rattle.hextile_codec.specs.TileKinds.{subrect_of}
use Rattle.hextile_codec.specs.Marks.{AreMarks, runs_of_rows}
use Rattle.hextile_codec.proofs.LeftBits.{AreLeft, IsNext, listed_behind, next_listed, bit_true, bit_false}
use Rattle.hextile_codec.proofs.LowestBit.{bit_shift}

-- ---- positions, counted through the four rows

-- Whether a run begins at position p.
abbrev pub begins_at : Canvas → ℕ → ℕ → ℕ → Bool
begins_at canvas background y p = begins_run canvas background (y + p / 16) (p % 16)

-- The run that begins there.
abbrev pub run_at : Canvas → ℕ → ℕ → Subrect
run_at canvas y p = run_from canvas 16 (y + p / 16) (p % 16)

-- The runs from position p on.
abbrev pub runs_behind : Canvas → ℕ → ℕ → ℕ → List Subrect
runs_behind canvas background y = listed_behind (begins_at canvas background y) (run_at canvas y)

split : (p : ℕ) → 16 * (p / 16) + p % 16 ≡ p
split p = let e = mod-add-div' p 16 in omega (arith, e)

pub begin_marked : (canvas : Canvas) (background : ℕ) (y : ℕ) (marks : Marks) → AreMarks canvas background y marks → (p : ℕ) → p < 64 → bit_at marks.begins p ≡ bit_of (begins_at canvas background y p)
begin_marked canvas background y marks are p lt =
    let whole = split p in
    let low : p % 16 < 16 = mod-lt p (omega arith) in
    ap (bit_at marks.begins) (sym whole) ∙ are.begins (p / 16) (p % 16) (omega (arith, whole, lt)) low

pub all_left : (canvas : Canvas) (background : ℕ) (y : ℕ) (marks : Marks) → AreMarks canvas background y marks → AreLeft (begins_at canvas background y) 0 marks.begins
all_left canvas background y marks are = record { above = λ k lo hi. begin_marked canvas background y marks are k hi; below = λ k lt. absurd (omega (arith, lt)); few = are.few }

-- With the runs from position p on those so far are all of the four rows.
abbrev pub AreSoFar : List Run → List Run → Canvas → ℕ → ℕ → ℕ → Type 0
AreSoFar before now canvas background y p = map subrect_of now ++ runs_behind canvas background y p ≡ map subrect_of before ++ runs_behind canvas background y 0

-- The runs in front of position p are found, and the bits from p on are left.
pub record AreMarked (before now : List Run) (canvas : Canvas) (background : ℕ) (y begins : ℕ) : Type 0 where
  pub p : ℕ
  pub inside : p ≤ 64
  pub few : length now ≤ length before + p
  pub left : AreLeft (begins_at canvas background y) p begins
  pub so_far : AreSoFar before now canvas background y p

-- ---- where it ends

not_false : (b : Bool) → not b ≡ false → b ≡ true
not_false true e = refl
not_false false e = absurd cc

same_along : (canvas : Canvas) (background : ℕ) (y : ℕ) (marks : Marks) (p t : ℕ) → AreMarks canvas background y marks → p < 64 → ((i : ℕ) → i < t → bit_at marks.ends (p + i) ≡ 0) → (k : ℕ) → k ≤ t → p % 16 + k < 16
    → canvas (p % 16 + k) (y + p / 16) ≡ canvas (p % 16) (y + p / 16)
same_along canvas background y marks p t are lp none zero le lt = let z : p % 16 + zero ≡ p % 16 = omega arith in ap (λ i. canvas i (y + p / 16)) z
same_along canvas background y marks p t are lp none (suc k) le lt =
    let x : ℕ = p % 16 in
    let r : ℕ = p / 16 in
    let whole = split p in
    let place : 16 * r + (x + k) ≡ p + k = omega (arith, whole) in
    let next : x + k + 1 ≡ x + suc k = omega arith in
    let bit : bit_of (not (canvas (x + k) (y + r) == canvas (x + k + 1) (y + r))) ≡ 0 = sym (are.ends r (x + k) (omega (arith, whole, lp)) (omega (arith, lt))) ∙ (ap (bit_at marks.ends) place ∙ none k (omega (arith, le))) in
    let same : canvas (x + k) (y + r) ≡ canvas (x + k + 1) (y + r) = eqb-true (canvas (x + k) (y + r)) (canvas (x + k + 1) (y + r)) (not_false (canvas (x + k) (y + r) == canvas (x + k + 1) (y + r)) (bit_false _ bit)) in
    ap (λ i. canvas i (y + r)) (sym next) ∙ (sym same ∙ same_along canvas background y marks p t are lp none k (omega (arith, le)) (omega (arith, lt)))

-- It has as many positions as the next bit of its row tells.
pub run_ends : (canvas : Canvas) (background : ℕ) (y : ℕ) (marks : Marks) (p : ℕ) → AreMarks canvas background y marks → p < 64
    → (trailing_zeros w64 (marks.ends / 2 ^ p) + 1 ≡ (run_at canvas y p).area.w) × (p % 16 + (trailing_zeros w64 (marks.ends / 2 ^ p) + 1) ≤ 16)
run_ends canvas background y marks p are lp =
    let x : ℕ = p % 16 in
    let r : ℕ = p / 16 in
    let row : ℕ = y + r in
    let n : ℕ = marks.ends / 2 ^ p in
    let t : ℕ = trailing_zeros w64 n in
    let whole = split p in
    let low : x < 16 = mod-lt p (omega arith) in
    let four : r < 4 = omega (arith, whole, lp) in
    let there : p + (15 - x) ≡ 16 * r + 15 = omega (arith, whole, low) in
    let set : bit_at n (15 - x) ≡ 1 = bit_shift marks.ends p (15 - x) ∙ (ap (bit_at marks.ends) there ∙ are.last r four) in
    let fits : n < 2 ^ 64 = let le = div-le_self marks.ends (2 ^ p) in omega (arith, le, are.small) in
    let some : 0 < n = elim (cases_lt 0 n) [
      | inl more ↦ more
      | inr le ↦
          let none : n ≡ 0 = omega (arith, le) in
          let zero_bit : bit_at n (15 - x) ≡ 0 = ap (λ m. bit_at m (15 - x)) none ∙ bit_at-zero (15 - x) in
          absurd (omega (arith, set, zero_bit))
    ] in
    let b = bit_at-trailing_zeros w64 n some fits in
    let none : (i : ℕ) → i < t → bit_at marks.ends (p + i) ≡ 0 = λ i li. sym (bit_shift marks.ends p i) ∙ b.2 i li in
    let upto : x + (t + 1) ≤ 16 = elim (cases_lt (15 - x) t) [
      | inl beyond ↦ let zero_bit = b.2 (15 - x) beyond in absurd (omega (arith, set, zero_bit))
      | inr le ↦ omega (arith, le, low)
    ] in
    let q : ℕ → Bool = λ k. canvas k row == canvas x row in
    let len : ℕ = (run_from canvas 16 row x).area.w in
    let within = run_within canvas 16 row x low in
    let not_less : (len < t + 1) → ⊥ =
    λ less.
    let stops : q (x + len) ≡ false = front_stops q x (16 - x) (omega (arith, less, upto)) in
    let same : canvas (x + len) row ≡ canvas x row = same_along canvas background y marks p t are lp none len (omega (arith, less)) (omega (arith, less, upto)) in
    let passes : q (x + len) ≡ true = eq-eqb (canvas (x + len) row) (canvas x row) same in
    let both : true ≡ false = sym passes ∙ stops in
    cc in
    let not_more : (t + 1 < len) → ⊥ =
    λ more.
    let passes : q (x + (t + 1)) ≡ true = front_passes q x (16 - x) (x + (t + 1)) (omega arith) (omega (arith, more)) in
    let inside : x + t + 1 < 16 = omega (arith, more, within) in
    let place : 16 * r + (x + t) ≡ p + t = omega (arith, whole) in
    let next : x + t + 1 ≡ x + (t + 1) = omega arith in
    let ended : bit_at marks.ends (16 * r + (x + t)) ≡ 1 = ap (bit_at marks.ends) place ∙ (sym (bit_shift marks.ends p t) ∙ b.1) in
    let differs : not (canvas (x + t) row == canvas (x + t + 1) row) ≡ true = bit_true _ (sym (are.ends r (x + t) four inside) ∙ ended) in
    let here : canvas (x + t) row ≡ canvas x row = same_along canvas background y marks p t are lp none t (omega arith) (omega (arith, inside)) in
    let behind : canvas (x + t + 1) row ≡ canvas x row = ap (λ i. canvas i row) next ∙ eqb-true (canvas (x + (t + 1)) row) (canvas x row) passes in
    let same : (canvas (x + t) row == canvas (x + t + 1) row) ≡ true = eq-eqb (canvas (x + t) row) (canvas (x + t + 1) row) (here ∙ sym behind) in
    let both : false ≡ true = sym (ap (λ (c : Bool). not c) same) ∙ differs in
    cc in (
      elim (cases_lt len (t + 1)) [
        | inl less ↦ absurd (not_less less)
        | inr least ↦ elim (cases_lt (t + 1) len) [
          | inl more ↦ absurd (not_more more)
          | inr most ↦ omega (arith, least, most)
        ]
      ],
      upto,
    )

subrect_same : (canvas : Canvas) (w y x v len : ℕ) → v ≡ canvas x y → len ≡ (run_from canvas w y x).area.w → subrect_of (record { value = v; x = x; y = y; len = len; high = 1 }) ≡ run_from canvas w y x
subrect_same canvas w y x v len a b = rw (a, b) refl

-- It is added.
pub run_marked : (before now : List Run) (canvas : Canvas) (background : ℕ) (y p first value len : ℕ) → IsNext (begins_at canvas background y) p first → value ≡ canvas (first % 16) (y + first / 16) → len ≡ (run_at canvas y first).area.w
    → AreSoFar before now canvas background y p → AreSoFar before (now ++ record { value = value; x = first % 16; y = y + first / 16; len = len; high = 1 } ∷ []) canvas background y (first + 1)
run_marked before now canvas background y p first value len n is long so =
    let run : Run = record { value = value; x = first % 16; y = y + first / 16; len = len; high = 1 } in
    let same : subrect_of run ≡ run_at canvas y first = subrect_same canvas 16 (y + first / 16) (first % 16) value len is long in
    ap (λ t. t ++ runs_behind canvas background y (first + 1)) (map-append subrect_of now (run ∷ []))
    ∙ (append_assoc (map subrect_of now) (subrect_of run ∷ []) (runs_behind canvas background y (first + 1))
    ∙ (ap (λ s. map subrect_of now ++ s ∷ runs_behind canvas background y (first + 1)) same ∙ (ap (λ t. map subrect_of now ++ t) (sym (next_listed (begins_at canvas background y) (run_at canvas y) p first n)) ∙ so)))

-- ---- the positions of four rows, row after row

pub range_split : (a n m : ℕ) → range_with_len a (n + m) ≡ range_with_len a n ++ range_with_len (a + n) m
range_split a zero m = let s : 0 + m ≡ m = omega arith in let t : a + 0 ≡ a = omega arith in rw (s, t) refl
range_split a (suc n) m =
    let s : suc n + m ≡ suc (n + m) = omega arith in
    let t : a + suc n ≡ a + 1 + n = omega arith in
    rw (s, t) (ap (λ l. a ∷ l) (range_split (a + 1) n m))

module _ (canvas : Canvas) (background : ℕ) (y : ℕ) where
  -- Those of row r, from column x on.
  row_positions : (r x n : ℕ) → x + n ≤ 16 → map (run_at canvas y) (filter (begins_at canvas background y) (range_with_len (r * 16 + x) n)) ≡ map (run_from canvas 16 (y + r)) (filter (begins_run canvas background (y + r)) (range_with_len x n))
  row_positions r x zero le = refl
  row_positions r x (suc n) le =
      let row : (r * 16 + x) / 16 ≡ r = div-mul-add r 16 x (omega (arith, le)) in
      let column : (r * 16 + x) % 16 ≡ x = mod-mul-add r 16 x (omega (arith, le)) in
      let next : r * 16 + x + 1 ≡ r * 16 + (x + 1) = omega arith in
      let others : map (run_at canvas y) (filter (begins_at canvas background y) (range_with_len (r * 16 + x + 1) n)) ≡ map (run_from canvas 16 (y + r)) (filter (begins_run canvas background (y + r)) (range_with_len (x + 1) n)) =
      ap (λ i. map (run_at canvas y) (filter (begins_at canvas background y) (range_with_len i n))) next ∙ row_positions r (x + 1) n (omega (arith, le)) in
      by_head (begins_at canvas background y (r * 16 + x)) (begins_run canvas background (y + r) x) (r * 16 + x) x (filter (begins_at canvas background y) (range_with_len (r * 16 + x + 1) n)) (filter (begins_run canvas background (y + r)) (range_with_len (x + 1) n)) (rw (row, column) refl)
      (rw (row, column) refl) others
    where
      by_head : (b c : Bool) (i j : ℕ) (is js : List ℕ) → b ≡ c → run_at canvas y i ≡ run_from canvas 16 (y + r) j → map (run_at canvas y) is ≡ map (run_from canvas 16 (y + r)) js
          → map (run_at canvas y) (cond b (i ∷ is) is) ≡ map (run_from canvas 16 (y + r)) (cond c (j ∷ js) js)
      by_head true true i j is js e s o = rw (s, o) refl
      by_head false false i j is js e s o = o
      by_head true false i j is js e s o = absurd cc
      by_head false true i j is js e s o = absurd cc

  rows_positions : (n r : ℕ) → map (run_at canvas y) (filter (begins_at canvas background y) (range_with_len (r * 16) (n * 16))) ≡ runs_of_rows canvas background 16 (y + r) n
  rows_positions zero r = refl
  rows_positions (suc n) r =
      let f : ℕ → Subrect = run_at canvas y in
      let p : ℕ → Bool = begins_at canvas background y in
      let count : suc n * 16 ≡ 16 + n * 16 = omega arith in
      let start : r * 16 ≡ r * 16 + 0 = omega arith in
      let next : r * 16 + 16 ≡ (r + 1) * 16 = omega arith in
      let below : y + (r + 1) ≡ y + r + 1 = omega arith in
      ap (λ m. map f (filter p (range_with_len (r * 16) m))) count
      ∙ (ap (λ l. map f (filter p l)) (range_split (r * 16) 16 (n * 16))
      ∙ (ap (map f) (filter-append p (range_with_len (r * 16) 16) (range_with_len (r * 16 + 16) (n * 16)))
      ∙ (map-append f (filter p (range_with_len (r * 16) 16)) (filter p (range_with_len (r * 16 + 16) (n * 16)))
      ∙ (ap (λ i. map f (filter p (range_with_len i 16)) ++ map f (filter p (range_with_len (r * 16 + 16) (n * 16)))) start
      ∙ (ap (λ l. l ++ map f (filter p (range_with_len (r * 16 + 16) (n * 16)))) (row_positions r 0 16 (omega arith))
      ∙ (ap (λ i. runs_of_row canvas background 16 (y + r) ++ map f (filter p (range_with_len i (n * 16)))) next
      ∙ (ap (λ l. runs_of_row canvas background 16 (y + r) ++ l) (rows_positions n (r + 1)) ∙ ap (λ i. runs_of_row canvas background 16 (y + r) ++ runs_of_rows canvas background 16 i n) below)))))))

  pub all_behind : runs_behind canvas background y 0 ≡ runs_of_rows canvas background 16 y 4
  all_behind = let here : y + 0 ≡ y = omega arith in rows_positions 4 0 ∙ ap (λ i. runs_of_rows canvas background 16 i 4) here

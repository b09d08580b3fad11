-- A tile that is crowded has many runs in either form, over any background. `is_crowded` owes that.
use Rattle.std.proofs.Common.{◌≡◌, ℕ, zero, suc, Bool, true, false, not, cond, ◌&&◌, ◌||◌, List, [], ◌∷◌, ◌++◌, length, map, get_or, refl, sym, ap, ◌∙◌, ◌+◌, ◌-◌, ◌<◌, ◌≤◌, ◌⊎◌, inl, inr, length-append, arith}
use Rattle.std.specs.Prelude.{filter, ◌==◌}
use Rattle.std.specs.List.{flat_map, list_all, range_with_len}
use Rattle.std.proofs.lemmas.Bool.{and_from, and_parts, eq-eqb, eqb-true}
use Rattle.std.proofs.lemmas.List.{append-nil}
use Rattle.std.proofs.lemmas.Grind.{flat_map-append}
use Rattle.std.proofs.lemmas.List.Elements.{filter-append}
use Rattle.raster.specs.Screen.{Canvas}
use Rattle.raster.specs.Encoding.{Subrect, begins_run, run_from, runs_of_row}
use Rattle.joined_runs.specs.declared.rect_form.RectForm.TheVariants.{OfRows, Joined}
use Rattle.joined_runs.specs.Joined.{background_of, is_below, runs_over, with_below, written}
use Rattle.joined_runs.proofs.WrittenParts.{written_append}
use Rattle.hextile_codec.specs.Crowded.{is_corner, shown_in, AreBegun}
use Rattle.hextile_codec.specs.TileKinds.{has_one_value, HasMany}
use Rattle.hextile_codec.specs.Marks.{runs_of_rows}
use Rattle.hextile_codec.proofs.MarkedRuns.{range_split}
use Rattle.hextile_codec.proofs.RowMarks.{Shows}
use Rattle.hextile_codec.proofs.Tallies.{tally_filter, tally_split}

-- ---- of one value or more

one_from : (v : ℕ) (ts : List Subrect) → list_all (λ t. t.value == v) ts ≡ true → has_one_value ts ≡ true
one_from v [] e = refl
one_from v (t ∷ ts) e =
    let both = and_parts (t.value == v) (list_all (λ u. u.value == v) ts) e in
    ap (λ n. list_all (λ u. u.value == n) ts) (eqb-true t.value v both.0) ∙ both.1

all_pass : (p : Subrect → Bool) (ss : List Subrect) → list_all p ss ≡ true → length (filter p ss) ≡ length ss
all_pass p [] e = refl
all_pass p (s ∷ ss) e =
    let both = and_parts (p s) (list_all p ss) e in
    ap (λ b. length (cond b (s ∷ filter p ss) (filter p ss))) both.0 ∙ ap suc (all_pass p ss both.1)

-- No value has as many of them as there are: they have more values than one.
pub mixed_many : (ss : List Subrect) (most : ℕ) → ((v : ℕ) → length (filter (λ s. s.value == v) ss) ≤ most) → most < length ss → has_one_value ss ≡ false
mixed_many [] most few lt = absurd (omega (arith, lt))
mixed_many (s ∷ ss) most few lt = by_test (has_one_value (s ∷ ss)) refl
  where
    by_test : (b : Bool) → has_one_value (s ∷ ss) ≡ b → b ≡ false
    by_test false e = refl
    by_test true e =
        let all : list_all (λ t. t.value == s.value) (s ∷ ss) ≡ true = and_from (s.value == s.value) (list_all (λ t. t.value == s.value) ss) (eq-eqb s.value s.value refl) e in
        absurd (omega (arith, all_pass (λ t. t.value == s.value) (s ∷ ss) all, few s.value, lt))

-- ---- the joined runs that begin in a row

module _ (canvas : Canvas) (h background y : ℕ) where
  abbrev begins : ℕ → Bool
  begins x = begins_run canvas background y x

  abbrev is_written : ℕ → Bool
  is_written x = begins x && not (is_below canvas 16 (run_from canvas 16 y x))

  abbrev runs_at : List ℕ → List Subrect
  runs_at xs = map (run_from canvas 16 y) (filter begins xs)

  -- They are those of the positions at which one begins that isn't joined to one above.
  written_count : (xs : List ℕ) → length (written Joined canvas 16 h (runs_at xs)) ≡ length (filter is_written xs)
  written_count [] = refl
  written_count (x ∷ xs) = by_tests (written_count xs) (begins x) (not (is_below canvas 16 (run_from canvas 16 y x))) refl refl
    where
      by_tests : length (written Joined canvas 16 h (runs_at xs)) ≡ length (filter is_written xs) → (b c : Bool) → begins x ≡ b → not (is_below canvas 16 (run_from canvas 16 y x)) ≡ c → length (written Joined canvas 16 h (runs_at (x ∷ xs))) ≡ length (filter is_written (x ∷ xs))
      by_tests rest true true e f = rw (e, f) (ap suc rest)
      by_tests rest true false e f = rw (e, f) rest
      by_tests rest false c e f = rw e rest

  -- Those of one value are no more than the positions that show it.
  written_of : (v : ℕ) (xs : List ℕ) → length (filter (λ s. s.value == v) (written Joined canvas 16 h (runs_at xs))) ≤ length (filter (λ x. canvas x y == v) xs)
  written_of v [] = omega arith
  written_of v (x ∷ xs) = by_tests (written_of v xs) (begins x) (not (is_below canvas 16 (run_from canvas 16 y x))) (canvas x y == v) refl refl refl
    where
      by_tests : length (filter (λ s. s.value == v) (written Joined canvas 16 h (runs_at xs))) ≤ length (filter (λ z. canvas z y == v) xs) → (b c d : Bool) → begins x ≡ b → not (is_below canvas 16 (run_from canvas 16 y x)) ≡ c → (canvas x y == v) ≡ d
          → length (filter (λ s. s.value == v) (written Joined canvas 16 h (runs_at (x ∷ xs)))) ≤ length (filter (λ z. canvas z y == v) (x ∷ xs))
      by_tests rest true true true e f g = rw (e, f, g) (omega (arith, rest))
      by_tests rest true true false e f g = rw (e, f, g) rest
      by_tests rest true false true e f g = rw (e, f, g) (omega (arith, rest))
      by_tests rest true false false e f g = rw (e, f, g) rest
      by_tests rest false c true e f g = rw (e, g) (omega (arith, rest))
      by_tests rest false c false e f g = rw (e, g) rest

not_false : (b : Bool) → not b ≡ true → b ≡ false
not_false true e = absurd cc
not_false false e = refl

not_zero : (y : ℕ) → (y == 0) ≡ false → 0 < y
not_zero zero e = absurd cc
not_zero (suc y) e = omega arith

-- ---- row after row

next_row : (canvas : Canvas) (h background y : ℕ)
    → written Joined canvas 16 h (runs_of_rows canvas background 16 0 (y + 1)) ≡ written Joined canvas 16 h (runs_of_rows canvas background 16 0 y) ++ written Joined canvas 16 h (runs_of_row canvas background 16 y)
next_row canvas h background y =
    let f : ℕ → List Subrect = runs_of_row canvas background 16 in
    let place : 0 + y ≡ y = omega arith in
    ap (λ l. written Joined canvas 16 h (flat_map f l)) (range_split 0 y 1)
    ∙ (ap (written Joined canvas 16 h) (flat_map-append f (range_with_len 0 y) (range_with_len (0 + y) 1))
    ∙ (written_append canvas 16 h Joined (flat_map f (range_with_len 0 y)) (flat_map f (range_with_len (0 + y) 1))
    ∙ ap (λ l. written Joined canvas 16 h (flat_map f (range_with_len 0 y)) ++ written Joined canvas 16 h l) (ap (λ i. f i ++ []) place ∙ append-nil (f y))))

module _ (canvas : Canvas) (h y : ℕ) (row other : List ℕ) (shows : Shows row canvas y) (above : 0 < y → Shows other canvas (y - 1)) where
  -- A corner begins a run that isn't joined to one above, unless it shows the background.
  corner_begins : (background x : ℕ) → x < 16 → is_corner row other x ≡ true → (is_written canvas h background y x ≡ true) ⊎ ((canvas x y == background) ≡ true)
  corner_begins background x lt e =
      let both = and_parts ((x == 0) || not (get_or row (x - 1) 0 == get_or row x 0)) (not (get_or other x 0 == get_or row x 0)) e in
      let here : get_or row x 0 ≡ canvas x y = shows x lt in
      let before : get_or row (x - 1) 0 ≡ canvas (x - 1) y = shows (x - 1) (omega (arith, lt)) in
      let left : ((x == 0) || not (canvas (x - 1) y == canvas x y)) ≡ true = rw (here, before) at both.0 in
      by_background (canvas x y == background) refl left
      (by_row (y == 0) refl (λ some. not_false (canvas x (y - 1) == canvas x y) (let up : get_or other x 0 ≡ canvas x (y - 1) = above some x lt in rw (here, up) at both.1)))
    where
      by_row : (b : Bool) → (y == 0) ≡ b → (0 < y → (canvas x (y - 1) == canvas x y) ≡ false) → is_below canvas 16 (run_from canvas 16 y x) ≡ false
      by_row true e f = rw e refl
      by_row false e f = let ne = f (not_zero y e) in rw (e, ne) refl

      by_background : (b : Bool) → (canvas x y == background) ≡ b → ((x == 0) || not (canvas (x - 1) y == canvas x y)) ≡ true → is_below canvas 16 (run_from canvas 16 y x) ≡ false
          → (is_written canvas h background y x ≡ true) ⊎ ((canvas x y == background) ≡ true)
      by_background true e left none = inr e
      by_background false e left none = inl (rw (e, left, none) refl)

  pub begun_on : (begun more : ℕ) → more ≤ length (filter (is_corner row other) (range_with_len 0 16)) → AreBegun canvas h y begun → AreBegun canvas h (y + 1) (begun + more)
  begun_on begun more few so = λ background.
      let split = tally_split (is_corner row other) (is_written canvas h background y) (λ x. canvas x y == background) 0 16 (λ x lo hi e. corner_begins background x (omega (arith, hi)) e) in
      let count = written_count canvas h background y (range_with_len 0 16) in
      let on = next_row canvas h background y in
      let before : List Subrect = written Joined canvas 16 h (runs_of_rows canvas background 16 0 y) in
      let here : List Subrect = written Joined canvas 16 h (runs_of_row canvas background 16 y) in
      let upto : y + 1 ≡ suc y = omega arith in
      let shown : shown_in canvas background (y + 1) ≡ shown_in canvas background y + length (filter (λ x. canvas x y == background) (range_with_len 0 16)) = ap (shown_in canvas background) upto in
      omega (arith, so background, few, split, count, ap length on, length-append before here, shown, tally_filter (is_corner row other) 0 16, tally_filter (is_written canvas h background y) 0 16, tally_filter (λ x. canvas x y == background) 0 16)

pub none_begun : (canvas : Canvas) (h y : ℕ) → AreBegun canvas h y 0
none_begun canvas h y = λ background. omega arith

-- Those of one value are no more than the positions that show it.
written_few : (canvas : Canvas) (h background v y : ℕ) → length (filter (λ s. s.value == v) (written Joined canvas 16 h (runs_of_rows canvas background 16 0 y))) ≤ shown_in canvas v y
written_few canvas h background v zero = omega arith
written_few canvas h background v (suc y) =
    let upto : y + 1 ≡ suc y = omega arith in
    let before : List Subrect = written Joined canvas 16 h (runs_of_rows canvas background 16 0 y) in
    let here : List Subrect = written Joined canvas 16 h (runs_of_row canvas background 16 y) in
    let on : written Joined canvas 16 h (runs_of_rows canvas background 16 0 (suc y)) ≡ before ++ here = ap (λ n. written Joined canvas 16 h (runs_of_rows canvas background 16 0 n)) (sym upto) ∙ next_row canvas h background y in
    let parts : filter (λ s. s.value == v) (before ++ here) ≡ filter (λ s. s.value == v) before ++ filter (λ s. s.value == v) here = filter-append (λ s. s.value == v) before here in
    let row = written_of canvas h background y v (range_with_len 0 16) in
    omega (arith, ap (λ ss. length (filter (λ s. s.value == v) ss)) on, ap length parts, length-append (filter (λ s. s.value == v) before) (filter (λ s. s.value == v) here), written_few canvas h background v y, row)

-- ---- in both forms

kept_one : (f : Subrect → Subrect) (b : Bool) (s : Subrect) (ss : List Subrect) (n : ℕ) → length (map f ss) ≤ n → length (map f (cond b (s ∷ ss) ss)) ≤ suc n
kept_one f true s ss n le = omega (arith, le)
kept_one f false s ss n le = omega (arith, le)

kept_few : (f : Subrect → Subrect) (p : Subrect → Bool) (ss : List Subrect) → length (map f (filter p ss)) ≤ length ss
kept_few f p [] = omega arith
kept_few f p (s ∷ ss) = kept_one f (p s) s (filter p ss) (length ss) (kept_few f p ss)

value_one : (canvas : Canvas) (h v : ℕ) (b : Bool) (s : Subrect) (ss : List Subrect) → (s.value == v) ≡ true → list_all (λ t. t.value == v) (map (with_below canvas 16 h) ss) ≡ true → list_all (λ t. t.value == v) (map (with_below canvas 16 h) (cond b (s ∷ ss) ss)) ≡ true
value_one canvas h v true s ss e f = and_from (s.value == v) (list_all (λ t. t.value == v) (map (with_below canvas 16 h) ss)) e f
value_one canvas h v false s ss e f = f

kept_value : (canvas : Canvas) (h v : ℕ) (p : Subrect → Bool) (ss : List Subrect) → list_all (λ t. t.value == v) ss ≡ true → list_all (λ t. t.value == v) (map (with_below canvas 16 h) (filter p ss)) ≡ true
kept_value canvas h v p [] e = refl
kept_value canvas h v p (s ∷ ss) e =
    let both = and_parts (s.value == v) (list_all (λ t. t.value == v) ss) e in
    value_one canvas h v (p s) s (filter p ss) both.0 (kept_value canvas h v p ss both.1)

-- Where the joined runs have more values than one, so have the runs of rows.
rows_mixed : (canvas : Canvas) (h : ℕ) (ss : List Subrect) → has_one_value (written Joined canvas 16 h ss) ≡ false → has_one_value ss ≡ false
rows_mixed canvas h [] mixed = absurd (let no : true ≡ false = mixed in cc)
rows_mixed canvas h (s ∷ ss) mixed = by_test (has_one_value (s ∷ ss)) refl
  where
    by_test : (b : Bool) → has_one_value (s ∷ ss) ≡ b → b ≡ false
    by_test false e = refl
    by_test true e =
        let all : list_all (λ t. t.value == s.value) (s ∷ ss) ≡ true = and_from (s.value == s.value) (list_all (λ t. t.value == s.value) ss) (eq-eqb s.value s.value refl) e in
        let kept = kept_value canvas h s.value (λ run. not (is_below canvas 16 run)) (s ∷ ss) all in
        absurd (let no : true ≡ false = sym (one_from s.value (written Joined canvas 16 h (s ∷ ss)) kept) ∙ mixed in cc)

module _ (canvas : Canvas) (h corners most enough : ℕ) (begun : AreBegun canvas h h corners) (shown : (v : ℕ) → shown_in canvas v h ≤ most) (few : most < enough) (more : enough + most ≤ corners) where
  many_over : (background : ℕ) → enough ≤ length (written Joined canvas 16 h (runs_over canvas background 16 h))
  many_over background = omega (arith, begun background, shown background, more)

  mixed_over : (background : ℕ) → has_one_value (written Joined canvas 16 h (runs_over canvas background 16 h)) ≡ false
  mixed_over background =
      mixed_many (written Joined canvas 16 h (runs_over canvas background 16 h)) most (λ v. omega (arith, written_few canvas h background v h, shown v)) (omega (arith, many_over background, few))

  pub crowded_joined : HasMany Joined 16 h canvas enough
  crowded_joined = record { many = many_over (background_of Joined 16 h canvas); mixed = mixed_over (background_of Joined 16 h canvas) }

  pub crowded_rows : HasMany OfRows 16 h canvas enough
  crowded_rows =
      let runs : List Subrect = runs_over canvas (background_of OfRows 16 h canvas) 16 h in
      record {
        many = omega (arith, many_over (background_of OfRows 16 h canvas), kept_few (with_below canvas 16 h) (λ run. not (is_below canvas 16 run)) runs);
        mixed = rows_mixed canvas h runs (mixed_over (background_of OfRows 16 h canvas));
      }

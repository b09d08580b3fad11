-- How many joined runs there are: no more than runs of rows, and fewer than positions. Their number is said in a byte,
-- or in four.
use Rattle.std.proofs.Common.{◌≡◌, ℕ, zero, suc, Bool, true, false, cond, List, ◌∷◌, length, refl, sym, ap, ◌∙◌, ◌+◌, ◌*◌, ◌<◌, ◌≤◌, arith, inl, inr, length-append, not}
use Rattle.std.specs.Prelude.{filter}
use Rattle.std.specs.List.{flat_map, range_with_len}
use Rattle.std.proofs.lemmas.Bool.{cases_eq, eq-eqb}
use Rattle.std.proofs.lemmas.List.{length-map}
use Rattle.std.proofs.lemmas.List.FromFn.{length-range_with_len}
use Rattle.raster.specs.Screen.{Canvas}
use Rattle.raster.specs.Encoding.{Subrect, begins_run, run_from, runs_of_row}
use Rattle.raster.proofs.Runs.{filter_few, row_count, rows_count}
use Rattle.joined_runs.specs.Joined.{runs_over, is_below, with_below, joined_runs}

pub joined_few : (canvas : Canvas) (background w h : ℕ) → length (joined_runs canvas background w h) ≤ length (runs_over canvas background w h)
joined_few canvas background w h =
    let all : List Subrect = runs_over canvas background w h in
    omega (arith, length-map (filter (λ run. not (is_below canvas w run)) all) (with_below canvas w h), filter_few (λ run. not (is_below canvas w run)) all)

pub few_joined : (canvas : Canvas) (background w h : ℕ) → length (joined_runs canvas background w h) ≤ h * w
few_joined canvas background w h = omega (arith, joined_few canvas background w h, rows_count canvas background w 0 h)

-- ---- one fewer, where a position has the background

miss_one : (test : ℕ → Bool) (a n k : ℕ) → a ≤ k → k < a + n → test k ≡ false → length (filter test (range_with_len a n)) < n
miss_one test a zero k lo hi e = absurd (omega arith)
miss_one test a (suc n) k lo hi e =
    elim (cases_eq k a) [
      | inl at ↦
          let none : test a ≡ false = ap test (sym at) ∙ e in
          let one : length (filter test (range_with_len a (suc n))) ≡ length (filter test (range_with_len (a + 1) n)) = ap (λ b. length (cond b (a ∷ filter test (range_with_len (a + 1) n)) (filter test (range_with_len (a + 1) n)))) none in
          omega (arith, one, filter_few test (range_with_len (a + 1) n), length-range_with_len (a + 1) n)
      | inr ne ↦ cond_less (test a) a (filter test (range_with_len (a + 1) n)) n (miss_one test (a + 1) n k (omega arith) (omega arith) e)
    ]
  where
    cond_less : (b : Bool) (x : ℕ) (xs : List ℕ) (n : ℕ) → length xs < n → length (cond b (x ∷ xs) xs) < suc n
    cond_less true x xs n h = omega arith
    cond_less false x xs n h = omega arith

row_less : (canvas : Canvas) (background w x y : ℕ) → x < w → canvas x y ≡ background → length (runs_of_row canvas background w y) < w
row_less canvas background w x y lx e =
    let begin : List ℕ = filter (begins_run canvas background y) (range_with_len 0 w) in
    let none : begins_run canvas background y x ≡ false = rw (eq-eqb (canvas x y) background e) refl in
    omega (arith, length-map begin (run_from canvas w y), miss_one (begins_run canvas background y) 0 w x (omega arith) (omega arith) none)

rows_less : (canvas : Canvas) (background w a n x y : ℕ) → x < w → a ≤ y → y < a + n → canvas x y ≡ background → length (flat_map (runs_of_row canvas background w) (range_with_len a n)) < n * w
rows_less canvas background w a zero x y lx lo hi e = absurd (omega arith)
rows_less canvas background w a (suc n) x y lx lo hi e =
    let l = length-append (runs_of_row canvas background w a) (flat_map (runs_of_row canvas background w) (range_with_len (a + 1) n)) in
    elim (cases_eq y a) [
      | inl at ↦
          let t = rows_count canvas background w (a + 1) n in
          let here : length (runs_of_row canvas background w a) < w = row_less canvas background w x a lx (ap (λ z. canvas x z) (sym at) ∙ e) in
          omega (arith, l, t, here)
      | inr ne ↦
          let t = rows_less canvas background w (a + 1) n x y lx (omega arith) (omega arith) e in
          omega (arith, l, t, row_count canvas background w a)
    ]

pub fewer_joined : (canvas : Canvas) (background w h x y : ℕ) → x < w → y < h → canvas x y ≡ background → length (joined_runs canvas background w h) < h * w
fewer_joined canvas background w h x y lx ly e = omega (arith, joined_few canvas background w h, rows_less canvas background w 0 h x y lx (omega arith) (omega arith) e)

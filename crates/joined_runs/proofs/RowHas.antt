-- A run of a row, looked for in another row's own values. `is_below` and `rows_below` do so.
use Rattle.std.proofs.Common.{◌≡◌, ℕ, Bool, true, false, ◌&&◌, ◌||◌, not, List, length, take, drop, get_or, refl, sym, ap, ◌∙◌, ◌+◌, ◌-◌, ◌<◌, ◌≤◌, arith, inl, inr}
use Rattle.std.specs.Prelude.{◌⊎◌, ◌==◌, take_while}
use Rattle.std.specs.List.{range_with_len}
use Rattle.std.proofs.lemmas.Bool.{cases_lt, eqb-true, and_parts}
use Rattle.std.proofs.lemmas.List.{length-drop, get_or-drop, take_all}
use Rattle.raster.specs.Screen.{Canvas}
use Rattle.raster.specs.Encoding.{Subrect, run_from}
use Rattle.raster.specs.RowShown.{row_shows}
use Rattle.raster.proofs.RowScan.{front_of_list}
use Rattle.raster.proofs.Runs.{front_passes, front_reaches, front_within}
use Rattle.joined_runs.specs.Joined.{stands_in}

-- The run at x, found in what is left of the row.
pub run_at : (row : List ℕ) (y x : ℕ) → x < length row
    → length (take_while (λ v. v == get_or row x 0) (take (length row - x) (drop x row))) ≡ (run_from (row_shows row) (length row) y x).area.w
run_at row y x lx =
    let left : length (drop x row) ≡ length row - x = length-drop x row in
    ap (λ t. length (take_while (λ v. v == get_or row x 0) t)) (take_all (length row - x) (drop x row) (omega (arith, left)))
    ∙ (front_of_list (λ k. get_or row k 0) (get_or row x 0) x (drop x row) (λ k lt. get_or-drop x row k 0)
    ∙ ap (λ n. length (take_while (λ k. get_or row k 0 == get_or row x 0) (range_with_len x n))) left)

-- ---- two canvases with the same row

pub same_front : (p q : ℕ → Bool) (a n : ℕ) → ((k : ℕ) → a ≤ k → k < a + n → p k ≡ q k) → length (take_while p (range_with_len a n)) ≡ length (take_while q (range_with_len a n))
same_front p q a n f =
    let up : length (take_while p (range_with_len a n)) ≤ length (take_while q (range_with_len a n)) =
    front_reaches q a n (length (take_while p (range_with_len a n))) (front_within p a n) (λ k lo hi. sym (f k lo (omega (arith, hi, front_within p a n))) ∙ front_passes p a n k lo hi) in
    let down : length (take_while q (range_with_len a n)) ≤ length (take_while p (range_with_len a n)) =
    front_reaches p a n (length (take_while q (range_with_len a n))) (front_within q a n) (λ k lo hi. f k lo (omega (arith, hi, front_within q a n)) ∙ front_passes q a n k lo hi) in
    omega (arith, up, down)

pub same_stands : (c d : Canvas) (w y z : ℕ) (run : Subrect) → run.area.x < w → ((k : ℕ) → k < w → c k y ≡ d k z) → stands_in c w run y ≡ stands_in d w run z
same_stands c d w y z run lx f =
    let here : c run.area.x y ≡ d run.area.x z = f run.area.x lx in
    let left : c (run.area.x - 1) y ≡ d (run.area.x - 1) z = f (run.area.x - 1) (omega arith) in
    let wide : (run_from c w y run.area.x).area.w ≡ (run_from d w z run.area.x).area.w =
    same_front (λ k. c k y == c run.area.x y) (λ k. d k z == d run.area.x z) run.area.x (w - run.area.x) (λ k lo hi. let e = f k (omega arith) in rw (e, here) refl) in
    ap (λ v. (v == run.value) && (((run.area.x == 0) || not (c (run.area.x - 1) y == run.value)) && ((run_from c w y run.area.x).area.w == run.area.w))) here
    ∙ (ap (λ v. (d run.area.x z == run.value) && (((run.area.x == 0) || not (v == run.value)) && ((run_from c w y run.area.x).area.w == run.area.w))) left
    ∙ ap (λ n. (d run.area.x z == run.value) && (((run.area.x == 0) || not (d (run.area.x - 1) z == run.value)) && (n == run.area.w))) wide)

-- ---- how many follow

-- All up to here pass, and what follows doesn't, or there is none.
pub front_is : (p : ℕ → Bool) (a n m : ℕ) → m ≤ n → ((k : ℕ) → a ≤ k → k < a + m → p k ≡ true) → (n ≤ m) ⊎ (p (a + m) ≡ false) → length (take_while p (range_with_len a n)) ≡ m
front_is p a n m le f (inl all) = let up = front_reaches p a n m le f in omega (arith, up, front_within p a n)
front_is p a n m le f (inr stops) =
    let up = front_reaches p a n m le f in
    let down : length (take_while p (range_with_len a n)) ≤ m = elim (cases_lt m (length (take_while p (range_with_len a n)))) [
      | inl lt ↦ let t : false ≡ true = sym stops ∙ front_passes p a n (a + m) (omega arith) (omega arith) in absurd cc
      | inr ge ↦ ge
    ] in
    omega (arith, up, down)

-- ---- a run in a row

-- Where one of this value begins at x, the row has the run if that is as long.
pub has_by_len : (row : List ℕ) (run : Subrect) (n y : ℕ) → run.area.x < length row
    → ((get_or row run.area.x 0 == run.value) && ((run.area.x == 0) || not (get_or row (run.area.x - 1) 0 == run.value))) ≡ true
    → n ≡ length (take_while (λ v. v == run.value) (take (length row - run.area.x) (drop run.area.x row)))
    → (n == run.area.w) ≡ stands_in (row_shows row) (length row) run y
has_by_len row run n y lx begins is =
    let left : Bool = (run.area.x == 0) || not (get_or row (run.area.x - 1) 0 == run.value) in
    let both = and_parts (get_or row run.area.x 0 == run.value) left begins in
    let value : get_or row run.area.x 0 ≡ run.value = eqb-true (get_or row run.area.x 0) run.value both.0 in
    let long : n ≡ (run_from (row_shows row) (length row) y run.area.x).area.w =
    is ∙ (ap (λ v. length (take_while (λ u. u == v) (take (length row - run.area.x) (drop run.area.x row)))) (sym value) ∙ run_at row y run.area.x lx) in
    ap (λ k. k == run.area.w) long
    ∙ (ap (λ b. b && ((run_from (row_shows row) (length row) y run.area.x).area.w == run.area.w)) (sym both.1)
    ∙ ap (λ b. b && (left && ((run_from (row_shows row) (length row) y run.area.x).area.w == run.area.w))) (sym both.0))

pub lacks : (row : List ℕ) (run : Subrect) (y : ℕ) → ((get_or row run.area.x 0 == run.value) && ((run.area.x == 0) || not (get_or row (run.area.x - 1) 0 == run.value))) ≡ false
    → false ≡ stands_in (row_shows row) (length row) run y
lacks row run y none =
    none_of (get_or row run.area.x 0 == run.value) ((run.area.x == 0) || not (get_or row (run.area.x - 1) 0 == run.value)) ((run_from (row_shows row) (length row) y run.area.x).area.w == run.area.w) none
  where
    none_of : (a b c : Bool) → (a && b) ≡ false → false ≡ (a && (b && c))
    none_of true b c e = ap (λ t. t && c) (sym e)
    none_of false b c e = refl

-- What a row of a rectangle has, by its own values.
pub row_stands : (canvas : Canvas) (row : List ℕ) (w y : ℕ) (run : Subrect) → length row ≡ w → ((k : ℕ) → k < w → get_or row k 0 ≡ canvas k y) → run.area.x < w → stands_in (row_shows row) (length row) run y ≡ stands_in canvas w run y
row_stands canvas row w y run size shows lx = ap (λ n. stands_in (row_shows row) n run y) size ∙ same_stands (row_shows row) canvas w y y run lx shows

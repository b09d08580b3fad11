-- The runs of a tile's row, found in the row's own values. `add_row` finds them so, and owes those of the definition.
use Rattle.std.proofs.Common.{◌≡◌, ℕ, zero, suc, Bool, true, false, cond, List, [], ◌∷◌, ◌++◌, length, map, take, drop, get_or, refl, sym, ap, ◌∙◌, ◌+◌, ◌-◌, ◌<◌, ◌≤◌, append_assoc, arith}
use Rattle.std.specs.Prelude.{filter, ◌==◌, take_while}
use Rattle.std.specs.List.{list_all, range_with_len}
use Rattle.std.proofs.lemmas.Bool.{and_parts}
use Rattle.std.proofs.lemmas.List.{length-drop, get_or-drop, take_all, map-append}
use Rattle.raster.specs.Screen.{Canvas}
use Rattle.raster.specs.Encoding.{begins_run, run_from, runs_of_row}
use Rattle.raster.proofs.Runs.{run_some, run_within}
use Rattle.raster.proofs.RowScan.{IsFresh, runs_behind, front_of_list, fresh_behind, found_other, found_background}
use Rattle.hextile_codec.specs.declared.runs.Run.{Run}
use Rattle.hextile_codec.specs.TileKinds.{subrect_of}
use Rattle.raster.specs.RowShown.{row_shows}

-- The run at x, found in what is left of the row.
pub run_at : (row : List ℕ) (y x : ℕ) → x < length row
    → length (take_while (λ v. v == get_or row x 0) (take (length row - x) (drop x row))) ≡ (run_from (row_shows row) (length row) y x).area.w
run_at row y x lx =
    let left : length (drop x row) ≡ length row - x = length-drop x row in
    ap (λ t. length (take_while (λ v. v == get_or row x 0) t)) (take_all (length row - x) (drop x row) (omega (arith, left)))
    ∙ (front_of_list (λ k. get_or row k 0) (get_or row x 0) x (drop x row) (λ k lt. get_or-drop x row k 0)
    ∙ ap (λ n. length (take_while (λ k. get_or row k 0 == get_or row x 0) (range_with_len x n))) left)

-- ---- runs added one after another

-- With the runs after x those so far are all.
abbrev pub AreSoFar : List Run → List Run → List ℕ → ℕ → ℕ → ℕ → Type 0
AreSoFar before now row background y x =
    map subrect_of now ++ runs_behind (row_shows row) background (length row) y x ≡ map subrect_of before ++ runs_of_row (row_shows row) background (length row) y

subrect_same : (canvas : Canvas) (w y x v len : ℕ) → v ≡ canvas x y → len ≡ (run_from canvas w y x).area.w → subrect_of (record { value = v; x = x; y = y; len = len; high = 1 }) ≡ run_from canvas w y x
subrect_same canvas w y x v len a b = rw (a, b) refl

pub run_added : (before now : List Run) (row : List ℕ) (background y x len : ℕ) → x < length row → IsFresh (row_shows row) y x → len ≡ (run_from (row_shows row) (length row) y x).area.w
    → (get_or row x 0 ≡ background → ⊥) → AreSoFar before now row background y x
    → AreSoFar before (now ++ record { value = get_or row x 0; x = x; y = y; len = len; high = 1 } ∷ []) row background y (x + len)
run_added before now row background y x len lx fresh long ne so =
    let c : Canvas = row_shows row in
    let w : ℕ = length row in
    let run : Run = record { value = get_or row x 0; x = x; y = y; len = len; high = 1 } in
    let same : subrect_of run ≡ run_from c w y x = subrect_same c w y x (get_or row x 0) len refl long in
    let rest : runs_behind c background w y (x + len) ≡ runs_behind c background w y (x + (run_from c w y x).area.w) = ap (λ n. runs_behind c background w y (x + n)) long in
    ap (λ t. t ++ runs_behind c background w y (x + len)) (map-append subrect_of now (run ∷ []))
    ∙ (append_assoc (map subrect_of now) (subrect_of run ∷ []) (runs_behind c background w y (x + len))
    ∙ (ap (λ t. map subrect_of now ++ subrect_of run ∷ t) rest
    ∙ (ap (λ s. map subrect_of now ++ s ∷ runs_behind c background w y (x + (run_from c w y x).area.w)) same
    ∙ (ap (λ t. map subrect_of now ++ t) (sym (found_other c background w y x lx fresh ne)) ∙ so))))

pub run_skipped : (before now : List Run) (row : List ℕ) (background y x len : ℕ) → x < length row → IsFresh (row_shows row) y x → len ≡ (run_from (row_shows row) (length row) y x).area.w
    → get_or row x 0 ≡ background → AreSoFar before now row background y x → AreSoFar before now row background y (x + len)
run_skipped before now row background y x len lx fresh long e so =
    let c : Canvas = row_shows row in
    let w : ℕ = length row in
    ap (λ n. map subrect_of now ++ runs_behind c background w y (x + n)) long
    ∙ (ap (λ t. map subrect_of now ++ t) (sym (found_background c background w y x lx fresh e)) ∙ so)

pub fresh_next : (row : List ℕ) (y x len : ℕ) → x < length row → len ≡ (run_from (row_shows row) (length row) y x).area.w → x + len < length row → IsFresh (row_shows row) y (x + len)
fresh_next row y x len lx long lt =
    rw long (fresh_behind (row_shows row) (length row) y x lx (omega (arith, long)))

pub run_fits : (row : List ℕ) (y x len : ℕ) → x < length row → len ≡ (run_from (row_shows row) (length row) y x).area.w → (0 < len) × (x + len ≤ length row)
run_fits row y x len lx long =
    let a = run_some (row_shows row) (length row) y x lx in
    let b = run_within (row_shows row) (length row) y x lx in
    (omega (arith, a, long), omega (arith, b, long))

-- ---- a row of the background alone

pub passes_at : (p : ℕ → Bool) (xs : List ℕ) (k : ℕ) → list_all p xs ≡ true → k < length xs → p (get_or xs k 0) ≡ true
passes_at p [] k e lt = absurd (omega arith)
passes_at p (x ∷ xs) zero e lt = (and_parts (p x) (list_all p xs) e).0
passes_at p (x ∷ xs) (suc k) e lt = passes_at p xs k (and_parts (p x) (list_all p xs) e).1 (omega arith)

pub none_pass : (p : ℕ → Bool) (a n : ℕ) → ((k : ℕ) → a ≤ k → k < a + n → p k ≡ false) → filter p (range_with_len a n) ≡ []
none_pass p a zero f = refl
none_pass p a (suc n) f =
    ap (λ b. cond b (a ∷ filter p (range_with_len (a + 1) n)) (filter p (range_with_len (a + 1) n))) (f a (omega arith) (omega arith)) ∙ none_pass p (a + 1) n (λ k lo hi. f k (omega arith) (omega arith))

-- It has no run.
pub background_alone : (row : List ℕ) (background y : ℕ) → list_all (λ v. v == background) row ≡ true → runs_of_row (row_shows row) background (length row) y ≡ []
background_alone row background y e =
    ap (map (run_from (row_shows row) (length row) y)) (none_pass (begins_run (row_shows row) background y) 0 (length row) (λ k lo hi. let here = passes_at (λ v. v == background) row k e (omega arith) in rw here refl))

-- The runs of a tile, found row after row. `find_runs` owes those of the definition, or that they are many.
use Rattle.std.proofs.Common.{◌≡◌, ℕ, suc, false, ◌&&◌, List, [], ◌∷◌, ◌++◌, length, map, get_or, refl, sym, ap, ◌∙◌, ◌+◌, ◌-◌, ◌<◌, ◌≤◌, append_assoc, length-append, arith}
use Rattle.std.specs.Prelude.{◌==◌}
use Rattle.std.specs.List.{flat_map, range_with_len, list_all}
use Rattle.std.proofs.lemmas.List.{append-nil, length-map}
use Rattle.std.proofs.lemmas.Grind.{flat_map-append}
use Rattle.std.proofs.lemmas.List.Folds.{list_all-append}
use Rattle.raster.specs.Screen.{Canvas}
use Rattle.raster.specs.Encoding.{Subrect, runs_of_row}
use Rattle.joined_runs.specs.Joined.{runs_over}
use Rattle.hextile_codec.specs.declared.runs.Run.{Run}
use Rattle.hextile_codec.specs.TileKinds.{subrect_of, has_one_value}
use Rattle.raster.specs.RowShown.{row_shows}
use Rattle.hextile_codec.specs.Marks.{runs_of_rows}
use Rattle.raster.proofs.AreaRows.{row_same}
use Rattle.hextile_codec.proofs.MarkedRuns.{range_split}

-- ---- row after row

-- The runs of row y and of those below it.
abbrev pub runs_from : Canvas → ℕ → ℕ → ℕ → ℕ → List Subrect
runs_from canvas background w h y = flat_map (runs_of_row canvas background w) (range_with_len y (h - y))

-- With those of the rows from y on these are all.
pub record AreAbove (canvas : Canvas) (background w h y : ℕ) (found : List Run) : Type 0 where
  pub all : map subrect_of found ++ runs_from canvas background w h y ≡ runs_over canvas background w h

pub all_above : (canvas : Canvas) (background w h y : ℕ) (found : List Run) → h ≤ y → AreAbove canvas background w h y found → map subrect_of found ≡ runs_over canvas background w h
all_above canvas background w h y found le a =
    let none : h - y ≡ 0 = omega arith in
    let over : runs_from canvas background w h y ≡ [] = rw none refl in
    sym (append-nil (map subrect_of found)) ∙ (ap (λ t. map subrect_of found ++ t) (sym over) ∙ a.all)

pub row_above : (canvas : Canvas) (background w h y : ℕ) (row : List ℕ) (found now : List Run) → length row ≡ w → ((k : ℕ) → k < w → get_or row k 0 ≡ canvas k y) → y < h
    → map subrect_of now ≡ map subrect_of found ++ runs_of_row (row_shows row) background (length row) y → AreAbove canvas background w h y found → AreAbove canvas background w h (y + 1) now
row_above canvas background w h y row found now size shows lt added a =
    let same : runs_of_row (row_shows row) background (length row) y ≡ runs_of_row canvas background w y =
    ap (λ n. runs_of_row (row_shows row) background n y) size ∙ row_same (row_shows row) canvas background w y (λ k lk. shows k lk) in
    let next : h - y ≡ suc (h - (y + 1)) = omega (arith, lt) in
    let below : runs_from canvas background w h y ≡ runs_of_row canvas background w y ++ runs_from canvas background w h (y + 1) = rw next refl in
    record {
      all =
          ap (λ t. t ++ runs_from canvas background w h (y + 1)) (added ∙ ap (λ t. map subrect_of found ++ t) same)
          ∙ (append_assoc (map subrect_of found) (runs_of_row canvas background w y) (runs_from canvas background w h (y + 1)) ∙ (ap (λ t. map subrect_of found ++ t) (sym below) ∙ a.all));
    }

-- Those of four rows are added at once.
pub rows_above : (canvas : Canvas) (background y : ℕ) (found now : List Run) → y + 4 ≤ 16 → map subrect_of now ≡ map subrect_of found ++ runs_of_rows canvas background 16 y 4 → AreAbove canvas background 16 16 y found → AreAbove canvas background 16 16 (y + 4) now
rows_above canvas background y found now le added a =
    let count : 16 - y ≡ 4 + (16 - (y + 4)) = omega (arith, le) in
    let f : ℕ → List Subrect = runs_of_row canvas background 16 in
    let below : runs_from canvas background 16 16 y ≡ runs_of_rows canvas background 16 y 4 ++ runs_from canvas background 16 16 (y + 4) =
    ap (λ n. flat_map f (range_with_len y n)) count ∙ (ap (flat_map f) (range_split y 4 (16 - (y + 4))) ∙ flat_map-append f (range_with_len y 4) (range_with_len (y + 4) (16 - (y + 4)))) in
    record {
      all =
          ap (λ t. t ++ runs_from canvas background 16 16 (y + 4)) added
          ∙ (append_assoc (map subrect_of found) (runs_of_rows canvas background 16 y 4) (runs_from canvas background 16 16 (y + 4)) ∙ (ap (λ t. map subrect_of found ++ t) (sym below) ∙ a.all));
    }

-- ---- some of them are too many

pub mixed_front : (ss ts : List Subrect) → has_one_value ss ≡ false → has_one_value (ss ++ ts) ≡ false
mixed_front [] ts e = absurd cc
mixed_front (s ∷ ss) ts e = list_all-append (λ t. t.value == s.value) ss ts ∙ ap (λ b. b && list_all (λ t. t.value == s.value) ts) e

pub above_mixed : (canvas : Canvas) (background w h y : ℕ) (found : List Run) → AreAbove canvas background w h y found → has_one_value (map subrect_of found) ≡ false → has_one_value (runs_over canvas background w h) ≡ false
above_mixed canvas background w h y found a e = ap has_one_value (sym a.all) ∙ mixed_front (map subrect_of found) (runs_from canvas background w h y) e

pub above_many : (canvas : Canvas) (background w h y : ℕ) (found : List Run) → AreAbove canvas background w h y found → length found ≤ length (runs_over canvas background w h)
above_many canvas background w h y found a =
    let size : length (map subrect_of found) ≡ length found = length-map found subrect_of in
    omega (arith, ap length (sym a.all), length-append (map subrect_of found) (runs_from canvas background w h y), size)

-- Tiles that are 16 wide and crowded with values.
use Rattle.std.specs.Prelude.{ℕ, zero, suc, ◌+◌, ◌-◌, ◌≤◌, ◌==◌, Bool, false, ◌&&◌, ◌||◌, not, List, filter, length, slice_index}
use Rattle.std.specs.List.{range_with_len}
use Rattle.raster.specs.Screen.{Canvas}
use Rattle.joined_runs.specs.declared.rect_form.RectForm.TheVariants.{Joined}
use Rattle.joined_runs.specs.Joined.{written}
use Rattle.hextile_codec.specs.Marks.{runs_of_rows}

-- Position x of a row of 16 has another value than the one to the left of it, if there is one, and than that of another
-- row.
abbrev pub is_corner : List ℕ → List ℕ → ℕ → Bool
is_corner row other x =
    ((x == 0) || not (slice_index row (x - 1) == slice_index row x)) && not (slice_index other x == slice_index row x)

-- At how many positions of the first rows a value shows.
abbrev pub shown_in : Canvas → ℕ → ℕ → ℕ
shown_in canvas value zero = 0
shown_in canvas value (suc y) = shown_in canvas value y + length (filter (λ x. canvas x y == value) (range_with_len 0 16))

-- It shows in column x of some rows, from row top on.
abbrev pub is_seen : Canvas → ℕ → ℕ → ℕ → ℕ → Bool
is_seen canvas value top zero x = false
is_seen canvas value top (suc n) x = is_seen canvas value top n x || (canvas x (top + n) == value)

-- In the first rows of a tile so many joined runs begin over any background, with the positions that show it.
abbrev pub AreBegun : Canvas → ℕ → ℕ → ℕ → Type 0
AreBegun canvas h y corners = (background : ℕ) → corners ≤ length (written Joined canvas 16 h (runs_of_rows canvas background 16 0 y)) + shown_in canvas background y

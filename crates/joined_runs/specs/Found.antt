-- Runs as the code has them.
use Rattle.std.specs.Prelude.{ℕ, ◌+◌, ◌-◌, ◌*◌, ◌<◌, ◌≤◌, ◌^◌, List, length, take_while}
use Rattle.std.specs.List.{range_with_len}
use Rattle.raster.specs.declared.rect.Rect.{Rect}
use Rattle.raster.specs.Screen.{Canvas}
use Rattle.raster.specs.Encoding.{Subrect}
use Rattle.joined_runs.specs.declared.joining.RowRun.{RowRun}
use Rattle.joined_runs.specs.Joined.{stands_in}

-- A run is a subrectangle of one row.
abbrev pub subrect_of : RowRun → Subrect
subrect_of run = record { value = run.value; area = record { x = run.x; y = run.y; w = run.len; h = 1 } }

-- A run, as a subrectangle this high.
abbrev pub subrect_as_high : RowRun → ℕ → Subrect
subrect_as_high run high = record { value = run.value; area = record { x = run.x; y = run.y; w = run.len; h = high } }

-- A rectangle lies among values, which stand in rows of w.
pub record LiesAmong (values : List ℕ) (w : ℕ) (area : Rect) : Type 0 where
  pub across : area.x + area.w ≤ w
  pub down : (area.y + area.h) * w ≤ length values
  pub wide : w < 2 ^ 16
  pub high : area.y + area.h < 2 ^ 16

-- The rectangle lies among the values, and the run begins in it.
pub record HasRun (values : List ℕ) (w : ℕ) (area : Rect) (run : RowRun) : Type 0 where
  pub lies : LiesAmong values w area
  pub column : run.x < area.w
  pub row : run.y < area.h

-- How many rows directly below a run have the same run.
abbrev pub rows_below : Canvas → ℕ → ℕ → Subrect → ℕ
rows_below canvas w h run = length (take_while (stands_in canvas w run) (range_with_len (run.area.y + 1) (h - (run.area.y + 1))))

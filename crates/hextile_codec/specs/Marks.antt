-- The marks of a tile's rows, as bits of their positions.
use Rattle.std.specs.Prelude.{◌≡◌, ℕ, ◌+◌, ◌*◌, ◌<◌, ◌≤◌, ◌^◌, not, ◌==◌, List, length}
use Rattle.std.specs.Int.{bit_at}
use Rattle.std.specs.List.{flat_map, range_with_len}
use Rattle.raster.specs.declared.rect.Rect.{Rect}
use Rattle.raster.specs.Screen.{Canvas}
use Rattle.raster.specs.Encoding.{Subrect, begins_run, runs_of_row}
use Rattle.hextile_codec.specs.declared.marking.Marks.{Marks}
use Rattle.hextile_codec.specs.Bits.{bit_of}

-- A tile lies in a rectangle of values, which stand in rows of w.
pub record LiesAmong (values : List ℕ) (w : ℕ) (tile : Rect) : Type 0 where
  pub across : tile.x + tile.w ≤ w
  pub down : (tile.y + tile.h) * w ≤ length values
  pub wide : w < 2 ^ 16
  pub high : tile.y + tile.h < 2 ^ 16

-- Marks of four rows of 16 over a background, from row y on. Position x of the row that is r further down has bit 16 * r + x.
pub record AreMarks (canvas : Canvas) (background y : ℕ) (marks : Marks) : Type 0 where
  pub begins : (r x : ℕ) → r < 4 → x < 16 → bit_at marks.begins (16 * r + x) ≡ bit_of (begins_run canvas background (y + r) x)
  pub ends : (r x : ℕ) → r < 4 → x + 1 < 16 → bit_at marks.ends (16 * r + x) ≡ bit_of (not (canvas x (y + r) == canvas (x + 1) (y + r)))
  pub last : (r : ℕ) → r < 4 → bit_at marks.ends (16 * r + 15) ≡ 1
  pub few : marks.begins < 2 ^ 64
  pub small : marks.ends < 2 ^ 64

-- The runs of n rows of a tile over a background, from row y on.
abbrev pub runs_of_rows : Canvas → ℕ → ℕ → ℕ → ℕ → List Subrect
runs_of_rows canvas background w y n = flat_map (runs_of_row canvas background w) (range_with_len y n)

-- The marks of a whole tile.
use Rattle.std.specs.Prelude.{◌≡◌, ℕ, ◌*◌, ◌<◌, slice_index}
use Rattle.raster.specs.Screen.{Canvas}
use Rattle.hextile_codec.specs.declared.runs.Run.{Run}
use Rattle.hextile_codec.specs.declared.tile_marks.TileMarks.{TileMarks}
use Rattle.hextile_codec.specs.Marks.{AreMarks}

-- Each word has those of four rows over a background.
abbrev pub AreTileMarks : Canvas → ℕ → TileMarks → Type 0
AreTileMarks canvas background marks =
    (k : ℕ) → k < 4 → AreMarks canvas background (4 * k) (record { background = background; begins = slice_index marks.begins k; ends = slice_index marks.ends k })

-- A run has another value than the background.
abbrev pub IsOther : ℕ → Run → Type 0
IsOther background run = run.value ≡ background → ⊥

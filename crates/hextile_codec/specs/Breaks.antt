-- Where a row of a whole tile differs from the one above it, as bits of their positions.
use Rattle.std.specs.Prelude.{◌≡◌, ℕ, ◌+◌, ◌-◌, ◌*◌, ◌/◌, ◌%◌, ◌^◌, ◌<◌, List, slice_index}
use Rattle.std.specs.Int.{bit_at}
use Rattle.raster.specs.Screen.{Canvas}
use Rattle.hextile_codec.specs.declared.breaks.Breaks.{Breaks}
use Rattle.hextile_codec.specs.declared.tile_marks.TileMarks.{TileMarks}

-- The bit of position x of row y, of words that have four rows each.
abbrev pub mark_at : List ℕ → ℕ → ℕ → ℕ
mark_at words y x = bit_at (slice_index words (y / 4)) (y % 4 * 16 + x)

-- A position shows the value of the one above it, and has its marks.
abbrev pub IsUnbroken : Canvas → TileMarks → ℕ → ℕ → Type 0
IsUnbroken canvas marks y x = (canvas x y ≡ canvas x (y - 1)) × (mark_at marks.begins y x ≡ mark_at marks.begins (y - 1) x) × (mark_at marks.ends y x ≡ mark_at marks.ends (y - 1) x)

-- A position of a row other than the first has no bit where it is unbroken, and only there.
pub record AreBreaks (canvas : Canvas) (marks : TileMarks) (breaks : Breaks) : Type 0 where
  pub none : (y x : ℕ) → 0 < y → y < 16 → x < 16 → mark_at breaks.words y x ≡ 0 → IsUnbroken canvas marks y x
  pub only : (y x : ℕ) → 0 < y → y < 16 → x < 16 → IsUnbroken canvas marks y x → mark_at breaks.words y x ≡ 0
  pub few : (k : ℕ) → k < 4 → slice_index breaks.words k < 2 ^ 64

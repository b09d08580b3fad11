-- Bits of the positions of a whole tile, of words that have four rows each.
use Rattle.std.specs.Prelude.{◌≡◌, ℕ, ◌-◌, ◌/◌, ◌%◌, ◌<◌, ◌^◌, ◌==◌, Bool, ◌&&◌, ◌||◌, not, List, slice_index}
use Rattle.raster.specs.Screen.{Canvas}
use Rattle.raster.specs.Encoding.{begins_run, run_from}
use Rattle.joined_runs.specs.Joined.{is_below}
use Rattle.hextile_codec.specs.Bits.{bit_of}
use Rattle.hextile_codec.specs.Breaks.{mark_at}

-- At position x of row y there is another value than to the left of it, or nothing is to the left of it.
abbrev pub changes_at : Canvas → ℕ → ℕ → Bool
changes_at canvas y x = (x == 0) || not (canvas (x - 1) y == canvas x y)

-- Each position has the bit that a test of its row and column sets.
pub record AreBits (test : ℕ → ℕ → Bool) (words : List ℕ) : Type 0 where
  pub bits : (y x : ℕ) → y < 16 → x < 16 → mark_at words y x ≡ bit_of (test y x)
  pub few : (k : ℕ) → k < 4 → slice_index words k < 2 ^ 64

-- A bit for each position at which the value changes.
abbrev pub AreChanges : Canvas → List ℕ → Type 0
AreChanges canvas = AreBits (changes_at canvas)

-- A bit for each position with another value than this one.
abbrev pub AreOthers : Canvas → ℕ → List ℕ → Type 0
AreOthers canvas value = AreBits (λ y x. not (canvas x y == value))

-- A run over a background begins at position x of row y, and is joined to one above it.
abbrev pub joins_at : Canvas → ℕ → ℕ → ℕ → Bool
joins_at canvas background y x = begins_run canvas background y x && is_below canvas 16 (run_from canvas 16 y x)

-- A bit for each position at which there is such a run.
abbrev pub AreJoins : Canvas → ℕ → List ℕ → Type 0
AreJoins canvas background = AreBits (joins_at canvas background)

-- Position p, counted row after row, is the first that has a bit.
pub record IsFirst (words : List ℕ) (p : ℕ) : Type 0 where
  pub inside : p < 256
  pub one : mark_at words (p / 16) (p % 16) ≡ 1
  pub none : (k : ℕ) → k < p → mark_at words (k / 16) (k % 16) ≡ 0

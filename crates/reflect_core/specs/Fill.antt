-- How a cut is filled from a board, run by run.
use Rattle.std.specs.Prelude.{◌≡◌, ℕ, ◌+◌, ◌<◌, ◌≤◌, Bool, ◌&&◌, true, false, List, is_some, slice_get, Some}
use Rattle.raster.specs.Screen.{LooksLike, lay, part_of, value_at}
use Rattle.reflect_core.specs.declared.cut.Cut.{Cut}
use Rattle.tiles.specs.Have.{SentTiles, sent_at}
use Rattle.tiles.specs.declared.walk.Run.{Run}

-- The answer says whether each of the tiles from first up to end, without end, was sent before. Where it is false, one
-- of them wasn't.
abbrev pub IsWhetherSent : SentTiles → ℕ → ℕ → Bool → Type 0
IsWhetherSent have first end true = (t : ℕ) → first ≤ t → t < end → is_some (sent_at have t) ≡ true
IsWhetherSent have first end false = (t : ℕ) × (first ≤ t) × (t < end) × (is_some (sent_at have t) ≡ false)

-- A run was taken: its tiles are due, and its part of the area has these colours; all else is as it was. Colours that
-- are shared stay.
pub record TookRun (colours : List ℕ) (have : SentTiles) (run : Run) (old new : Cut) : Type 0 where
  pub width : new.width ≡ old.width
  pub height : new.height ≡ old.height
  pub number : new.number ≡ old.number
  pub host_size : new.host_size ≡ old.host_size
  pub bells : new.bells ≡ old.bells
  pub text : new.text ≡ old.text
  pub passed : new.passed ≡ old.passed
  pub inside : (t : ℕ) → run.first ≤ t → t < run.first + run.count → slice_get new.due.items t ≡ Some true
  pub before : (t : ℕ) → t < run.first → slice_get new.due.items t ≡ slice_get old.due.items t
  pub behind : (t : ℕ) → run.first + run.count ≤ t → slice_get new.due.items t ≡ slice_get old.due.items t
  pub sent : (all : Bool) × IsWhetherSent have run.first (run.first + run.count) all × (new.all_were_sent ≡ (old.all_were_sent && all))
  pub shows : LooksLike old.width old.height (value_at new.width new.colours.items) (lay run.area (part_of run.area (value_at old.width colours)) (value_at old.width old.colours.items))
  pub is_shared : new.colours.is_shared ≡ old.colours.is_shared
  pub kept : old.colours.is_shared ≡ true → new.colours.items ≡ old.colours.items

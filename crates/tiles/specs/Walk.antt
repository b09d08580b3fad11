-- A walk over the runs of an area, tile after tile.
use Rattle.std.specs.Prelude.{◌≡◌, ℕ, ◌+◌, ◌*◌, ◌/◌, ◌%◌, ◌<◌, ◌≤◌, ◌⊎◌, Bool, true, false, ◌&&◌, nat_le, List, [], ◌∷◌, Option, Some, None}
use Rattle.raster.specs.declared.rect.Rect.{Rect}
use Rattle.raster.specs.Screen.{common, holds, meets, tile_count, tile_rect, tiles_across}
use Rattle.tiles.specs.Touched.{runs}
use Rattle.tiles.specs.Brings.{IsPart}
use Rattle.tiles.specs.declared.walk.Run.{Run}
use Rattle.raster.specs.declared.tile.TheConstants.{TILE_SIDE}

-- The width and height of the screen, the area, and the first tile that the walk hasn't reached (own).
pub record Walking : Type 0 where
  pub width : ℕ
  pub height : ℕ
  pub area : Rect
  pub next : ℕ

-- Tile t is due, and meets the area (own).
abbrev pub brings : Walking → (ℕ → Bool) → ℕ → Bool
brings walk due t = due t && meets walk.area (tile_rect walk.width walk.height t)

-- The runs that are left where these tiles are due: those of the tiles that the walk hasn't reached (own).
abbrev pub runs_left : Walking → (ℕ → Bool) → List Rect
runs_left walk due = runs walk.width walk.height walk.area (λ t. nat_le walk.next t && due t)

-- This many tiles of a row, from tile t on, as a rectangle of whole tiles (own).
abbrev pub tiles_rect : ℕ → ℕ → ℕ → Rect
tiles_rect w t n = record { x = t % tiles_across w * TILE_SIDE; y = t / tiles_across w * TILE_SIDE; w = n * TILE_SIDE; h = TILE_SIDE }

-- The first run that is left: tiles of one row, all of them due, with no due tile left before them; and the part of the
-- area that lies in them (own).
pub record IsNextRun (walk : Walking) (due : ℕ → Bool) (run : Run) : Type 0 where
  pub from : walk.next ≤ run.first
  pub some : 0 < run.count
  pub row : run.first % tiles_across walk.width + run.count ≤ tiles_across walk.width
  pub there : run.first + run.count ≤ tile_count walk.width walk.height
  pub skipped : (t : ℕ) → walk.next ≤ t → t < run.first → brings walk due t ≡ false
  pub taken : (t : ℕ) → run.first ≤ t → t < run.first + run.count → brings walk due t ≡ true
  pub area : run.area ≡ common walk.area (tiles_rect walk.width run.first run.count)
  pub part : IsPart walk.width walk.height run.area

-- No tile is left that is due (own).
abbrev pub IsDone : Walking → (ℕ → Bool) → Type 0
IsDone walk due = (t : ℕ) → walk.next ≤ t → t < tile_count walk.width walk.height → brings walk due t ≡ false

-- The rectangle of a run followed by these rectangles, and none where there is no run (own).
abbrev pub with_run : Option Run → List Rect → List Rect
with_run None more = []
with_run (Some run) more = run.area ∷ more

-- Both are of one screen and one area.
pub record IsSameWalk (walk other : Walking) : Type 0 where
  pub width : other.width ≡ walk.width
  pub height : other.height ≡ walk.height
  pub area : other.area ≡ walk.area

-- ---- the search for the next run

-- In a row of across tiles, which begins at the tile first: the tiles from start on, before end, pass; no tile from
-- next on before them does; and the run goes no further than end.
pub record IsRowRun (passes : ℕ → Bool) (first across next start end : ℕ) : Type 0 where
  pub from : next ≤ start
  pub in_row : first ≤ start
  pub some : start < end
  pub within : end ≤ first + across
  pub skipped : (t : ℕ) → next ≤ t → first ≤ t → t < start → passes t ≡ false
  pub taken : (t : ℕ) → start ≤ t → t < end → passes t ≡ true
  pub stops : (end ≡ first + across) ⊎ ((end < first + across) × (passes end ≡ false))

-- The same as IsRowRun over down such rows.
pub record IsFound (passes : ℕ → Bool) (across down next start end : ℕ) : Type 0 where
  pub row : ℕ
  pub low : row < down
  pub from : next ≤ start
  pub in_row : row * across ≤ start
  pub some : start < end
  pub within : end ≤ row * across + across
  pub skipped : (t : ℕ) → next ≤ t → t < start → passes t ≡ false
  pub taken : (t : ℕ) → start ≤ t → t < end → passes t ≡ true
  pub stops : (end ≡ row * across + across) ⊎ ((end < row * across + across) × (passes end ≡ false))

-- Tile t is due, and lies in this rectangle of tiles, where each row has across tiles.
abbrev pub is_in : (ℕ → Bool) → Rect → ℕ → ℕ → Bool
is_in due met across t = due t && holds met (t % across) (t / across)

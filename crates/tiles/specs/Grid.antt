-- At which update each tile of a screen was last touched.
use Rattle.std.specs.Prelude.{◌≡◌, ℕ, ◌<◌, Bool, true, not, ◌&&◌, nat_lt, if◌then◌else◌, List, slice_index, Option, Some, None}
use Rattle.raster.specs.Screen.{tile_count, tile_rect}
use Rattle.raster.specs.Update.{Update}
use Rattle.tiles.specs.Have.{SentTiles, sent_at}
use Rattle.tiles.specs.Touched.{last_touch}

-- For each tile of a screen the number of the last update that touches it, and 0 where none does.
pub record Stamps : Type 0 where
  pub width : ℕ
  pub height : ℕ
  pub stamps : List ℕ

-- The stamp of one tile.
abbrev pub stamp_at : Stamps → ℕ → ℕ
stamp_at grid t = slice_index grid.stamps t

-- The grid says of each tile what these updates say.
pub record GridStands (grid : Stamps) (us : List Update) : Type 0 where
  pub each : (t : ℕ) → t < tile_count grid.width grid.height → stamp_at grid t ≡ last_touch (tile_rect grid.width grid.height t) us

-- The tiles that pass a test have this stamp now, and all others the one that they had.
pub record IsTouched (passes : ℕ → Bool) (n : ℕ) (old new : Stamps) : Type 0 where
  pub width : new.width ≡ old.width
  pub height : new.height ≡ old.height
  pub each : (t : ℕ) → t < tile_count old.width old.height → stamp_at new t ≡ (if passes t then n else stamp_at old t)

-- Whether a tile with this stamp is due, where it was last sent at this number, or never.
abbrev pub is_due_at : Option ℕ → ℕ → Bool
is_due_at None stamp = true
is_due_at (Some n) stamp = nat_lt n stamp

-- Tile t is due, by its stamp and what a viewer has of it.
abbrev pub due_at : Stamps → SentTiles → ℕ → Bool
due_at grid have t = is_due_at (sent_at have t) (stamp_at grid t)

-- ---- a grid that is behind, and a newer one of the same screen

-- Tile t was touched after update n, by its stamp.
abbrev pub is_newer : Stamps → ℕ → ℕ → Bool
is_newer grid n t = nat_lt n (stamp_at grid t)

-- By the newer grid tile t was touched after update n, and by the grid that is behind it wasn't.
abbrev pub is_lacked : Stamps → Stamps → ℕ → ℕ → Bool
is_lacked grid newer n t = is_newer newer n t && not (is_newer grid n t)

-- Each lacked tile has the newer grid's stamp now, and each other tile the one that it had.
pub record IsCaughtUp (newer : Stamps) (n : ℕ) (old new : Stamps) : Type 0 where
  pub width : new.width ≡ old.width
  pub height : new.height ≡ old.height
  pub each : (t : ℕ) → t < tile_count old.width old.height → stamp_at new t ≡ (if is_lacked old newer n t then stamp_at newer t else stamp_at old t)

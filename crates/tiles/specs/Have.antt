-- What a viewer has of each tile.
use Rattle.std.specs.Prelude.{◌≡◌, ℕ, ◌<◌, ◌≤◌, min, List, slice_get, unwrap_or, Option, Some, None}
use Rattle.raster.specs.Screen.{tile_count, tile_rect}
use Rattle.tiles.specs.Touched.{Event, last_sent}

-- For each tile of a screen the number at which it was last sent, and none where it was never sent.
pub record SentTiles : Type 0 where
  pub width : ℕ
  pub height : ℕ
  pub sent : List (Option ℕ)

-- The number at an index of a list of them, and none past its end.
abbrev pub entry : List (Option ℕ) → ℕ → Option ℕ
entry numbers k = unwrap_or (slice_get numbers k) None

-- The number of one tile.
abbrev pub sent_at : SentTiles → ℕ → Option ℕ
sent_at have t = entry have.sent t

-- What is kept says of each tile what these events say. The latest event stands first.
pub record HaveStands (have : SentTiles) (es : List Event) : Type 0 where
  pub each : (t : ℕ) → t < tile_count have.width have.height → slice_get have.sent t ≡ Some (last_sent (tile_rect have.width have.height t) es)

-- Both are of one screen size.
pub record IsSameSize (have other : SentTiles) : Type 0 where
  pub width : other.width ≡ have.width
  pub height : other.height ≡ have.height

-- ---- what is kept of a row of tiles

-- The first is none, or both are numbers and it is at most the second.
abbrev pub AtMost : Option ℕ → Option ℕ → Type 0
AtMost None sent = Unit {0}
AtMost (Some n) None = ⊥
AtMost (Some n) (Some m) = n ≤ m

-- The lesser of two numbers, and none where the first is none.
abbrev pub lowered : Option ℕ → ℕ → Option ℕ
lowered None n = None
lowered (Some m) n = Some (min m n)

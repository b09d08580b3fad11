-- What a picture holds.
use Rattle.std.specs.Prelude.{◌≤◌, ◌^◌, ℕ, List}
use Rattle.raster.specs.Size.{IsScreenSize}
use Rattle.raster.specs.Update.{Update}
use Rattle.painter.specs.Board.{Posted, BoardStands}

-- Its width and height in pixels, its colours row after row, and the updates that were put on it.
pub record Shown : Type 0 where
  pub width : ℕ
  pub height : ℕ
  pub colours : List ℕ
  pub updates : List Update

-- A board of a screen's size, and the updates that were put on it.
pub record IsShown (board : Posted) (updates : List Update) : Type 0 where
  pub size : IsScreenSize board.width board.height
  pub stands : BoardStands board updates
  pub few : board.number ≤ 2 ^ 62

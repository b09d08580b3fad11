-- A screen that is kept, with what a viewer is told of it.
use Rattle.std.specs.Prelude.{◌≡◌, ℕ, ◌*◌, ◌≤◌, List, length, Option}
use Rattle.raster.specs.declared.size.Size.{Size}
use Rattle.raster.specs.Screen.{LooksLike, value_at}
use Rattle.raster.specs.Size.{IsScreenSize}
use Rattle.raster.specs.Update.{NumberedText, Update, bells, last_size, last_text, screen}
use Rattle.tiles.specs.Grid.{GridStands, Stamps}
use Rattle.copy_log.specs.Notes.{Log, LogStands}
use Rattle.painter.specs.Patch.{IsWithinScreen}

-- Its width and height in pixels, the number of its last update, the last size that an update told, its colours row
-- after row, the number of the last update that touched each tile, how many Bells there were, the last text, and the
-- notes of the copies that the last updates began with.
pub record Posted : Type 0 where
  pub width : ℕ
  pub height : ℕ
  pub number : ℕ
  pub size : Option Size
  pub colours : List ℕ
  pub grid : Stamps
  pub bells : ℕ
  pub text : Option NumberedText
  pub log : Log

-- The board is the view of these updates.
pub record BoardStands (board : Posted) (us : List Update) : Type 0 where
  pub number : board.number ≡ length us
  pub size : board.size ≡ last_size us
  pub screen : LooksLike board.width board.height (value_at board.width board.colours) (screen us)
  pub grid : GridStands board.grid us
  pub bells : board.bells ≡ bells us
  pub text : board.text ≡ last_text us
  pub log : LogStands board.log us

-- What its fields hold: a colour for each position, a grid and a log of the screen's size, no more Bells than updates,
-- a size that was told, if one was, that fits, and a log of as many updates.
pub record IsBoard (board : Posted) : Type 0 where
  pub size : IsScreenSize board.width board.height
  pub rows : length board.colours ≡ board.width * board.height
  pub tiles : (board.grid.width ≡ board.width) × (board.grid.height ≡ board.height)
  pub few : board.bells ≤ board.number
  pub told : IsWithinScreen board.width board.height board.size
  pub notes : (board.log.width ≡ board.width) × (board.log.height ≡ board.height)
  pub noted : board.log.number ≡ board.number

-- Both are of one screen size.
pub record IsSameScreen (board other : Posted) : Type 0 where
  pub width : other.width ≡ board.width
  pub height : other.height ≡ board.height

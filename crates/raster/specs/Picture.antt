-- What a raster holds, as contracts see it.
use Rattle.std.specs.Prelude.{◌≡◌, ℕ, ◌*◌, ◌^◌, ◌<◌, List, length}
use Rattle.raster.specs.Screen.{Canvas, LooksLike, value_at}

-- A width, a height, and a colour for each position, row after row.
pub record Picture : Type 0 where
  pub width : ℕ
  pub height : ℕ
  pub colours : List ℕ

-- The colour at each of its positions.
abbrev pub shown : Picture → Canvas
shown p = value_at p.width p.colours

-- A picture has as many colours as positions, and no more than a count can hold.
pub record IsPicture (p : Picture) : Type 0 where
  pub count : length p.colours ≡ p.width * p.height
  pub small : p.width * p.height < 2 ^ 62

-- A picture of the same size that shows a canvas.
pub record IsRedrawn (old : Picture) (canvas : Canvas) (new : Picture) : Type 0 where
  pub width : new.width ≡ old.width
  pub height : new.height ≡ old.height
  pub shows : LooksLike old.width old.height (shown new) canvas

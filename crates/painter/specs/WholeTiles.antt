-- Areas whose tiles are those of the screen.
use Rattle.std.specs.Prelude.{◌≡◌, ℕ, ◌+◌, ◌%◌, ◌⊎◌}
use Rattle.raster.specs.declared.rect.Rect.{Rect}

-- Each edge of an area of a screen of w by h stands between two of the screen's tiles, or at the end of the screen.
pub record HasWholeTiles (area : Rect) (w h : ℕ) : Type 0 where
  pub left : area.x % 16 ≡ 0
  pub top : area.y % 16 ≡ 0
  pub right : ((area.x + area.w) % 16 ≡ 0) ⊎ (area.x + area.w ≡ w)
  pub bottom : ((area.y + area.h) % 16 ≡ 0) ⊎ (area.y + area.h ≡ h)

-- Pixel values that show colours, in a format that keeps these apart.
use Rattle.std.specs.Prelude.{ℕ, ◌^◌, ◌<◌}
use Rattle.pixel_format.specs.PixelFormat.{PixelFormat, KeepsApart, tint}
use Rattle.raster.specs.Screen.{Canvas, LooksLike}
use Rattle.raster.specs.Encoding.{Subrect}

-- A canvas of colours as one of their pixel values.
abbrev pub tinted : PixelFormat → Canvas → Canvas
tinted format colours x y = tint format (colours x y)

-- A subrectangle of a colour as one of its pixel value, in the same place.
abbrev pub tinted_subrect : PixelFormat → Subrect → Subrect
tinted_subrect format s = record { value = tint format s.value; area = s.area }

-- In a rectangle of w by h, which isn't empty, a canvas shows these colours, each as its pixel value in a format that
-- keeps colours apart.
pub record ShowsApart (format : PixelFormat) (w h : ℕ) (colours shown : Canvas) : Type 0 where
  pub apart : KeepsApart format
  pub wide : 0 < w
  pub high : 0 < h
  pub are_colours : (x y : ℕ) → x < w → y < h → colours x y < 2 ^ 24
  pub shows : LooksLike w h shown (tinted format colours)

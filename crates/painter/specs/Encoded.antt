-- Parts of a screen that are encoded once for all viewers (RFC 6143, 7.7.4).
use Rattle.std.specs.Prelude.{◌≡◌, ℕ, ◌-◌, ◌≤◌, true, List, map, take, drop, All}
use Rattle.pixel_format.specs.PixelFormat.{PixelFormat, tint}
use Rattle.raster.specs.declared.rect.Rect.{Rect}
use Rattle.raster.specs.declared.encoding.Encoding.TheVariants.{Hextile}
use Rattle.raster.specs.Screen.{Canvas}
use Rattle.joined_runs.specs.declared.rect_form.RectForm.TheVariants.{Joined}
use Rattle.joined_runs.specs.Joined.{form_of, saves_bytes_as}
use Rattle.painter.specs.declared.encoded.EncodedArea.{EncodedArea}
use Rattle.painter.specs.Painter.{colours_in}

-- These bytes are the data of an area of a screen in Hextile of joined runs, which has fewer bytes than Raw.
pub record IsHextileOf (format : PixelFormat) (colours : Canvas) (area : Rect) (bytes : List ℕ) : Type 0 where
  pub saves : saves_bytes_as Joined Hextile format area.w area.h (map (tint format) (colours_in colours area)) ≡ true
  pub form_is : bytes ≡ form_of Joined Hextile format area.w area.h (map (tint format) (colours_in colours area))

-- Among the first n of these bytes stands the data of an area.
pub record IsEncodedAt (format : PixelFormat) (colours : Canvas) (n : ℕ) (bytes : List ℕ) (encoded : EncodedArea) : Type 0 where
  pub order : encoded.start ≤ encoded.end
  pub there : encoded.end ≤ n
  pub is_hextile : IsHextileOf format colours encoded.area (take (encoded.end - encoded.start) (drop encoded.start bytes))

-- Among the first n of these bytes stands the data of each of these areas.
abbrev pub AreEncoded : PixelFormat → Canvas → ℕ → List ℕ → List EncodedArea → Type 0
AreEncoded format colours n bytes list = All (IsEncodedAt format colours n bytes) list

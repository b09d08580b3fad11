-- What a part of a zlib stream shows of a screen (RFC 6143, 7.7.6).
use Rattle.std.specs.Prelude.{◌≡◌, ℕ, ◌*◌, ◌^◌, ◌≤◌, List, length, All}
use Rattle.pixel_format.specs.PixelFormat.{PixelFormat}
use Rattle.raster.specs.declared.rect.Rect.{Rect}
use Rattle.zrle_codec.specs.Areas.{IsZrle, area_values}
use Rattle.shared_parts.specs.declared.part.Screen.{Screen}

-- The part inflates to the tiles of an area of a screen of colours, which stand in rows of a width, and has at most 2^27
-- bytes.
pub record ShowsArea (format : PixelFormat) (width : ℕ) (colours : List ℕ) (area : Rect) (part : List ℕ) : Type 0 where
  pub is : IsZrle format area.w area.h (area_values format width colours area) part
  pub few : length part ≤ 2 ^ 27

-- Such a screen is the one that is meant.
abbrev pub IsScreen : ℕ → List ℕ → Screen → Type 0
IsScreen width colours screen = (screen.width ≡ width) × (screen.colours.value.items ≡ colours)

-- Each place is for parts of that screen.
abbrev pub ArePartsOf : ℕ → List ℕ → List Screen → Type 0
ArePartsOf width colours screens = All (IsScreen width colours) screens

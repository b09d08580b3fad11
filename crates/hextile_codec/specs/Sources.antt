-- Where the pixel values of a rectangle come from.
use Rattle.std.specs.Prelude.{◌≡◌, ℕ, ◌+◌, ◌*◌, ◌^◌, ◌<◌, Bool, true, false, if◌then◌else◌, List, length}
use Rattle.pixel_format.specs.PixelFormat.{PixelFormat, tint}
use Rattle.raster.specs.declared.rect.Rect.{Rect}
use Rattle.raster.specs.Screen.{Canvas, IsWithin, LooksLike, part_of, value_at, values_of}
use Rattle.hextile_codec.specs.declared.source.PixelSource.{PixelSource}
use Rattle.hextile_codec.specs.declared.source.TileValues.{TileValues}
use Rattle.hextile_codec.specs.Marks.{LiesAmong}

-- What a source shows in a format: its numbers, or the pixel values of these colours.
abbrev pub shows : PixelFormat → PixelSource → Canvas
shows format s x y =
    let number = value_at s.width s.numbers.now (s.area.x + x) (s.area.y + y) in
    if s.are_colours then tint format number else number

-- Where one of its tiles lies among its numbers.
abbrev pub place_in : PixelSource → Rect → Rect
place_in s tile = record { x = s.area.x + tile.x; y = s.area.y + tile.y; w = tile.w; h = tile.h }

-- Its numbers stand in rows, and its rectangle lies among them.
pub record SourceStands (s : PixelSource) : Type 0 where
  pub count : length s.numbers.now ≡ s.width * s.height
  pub small : (s.width < 2 ^ 16) × (s.height < 2 ^ 16)
  pub within : IsWithin s.area s.width s.height

-- The pixel values of a tile that shows a canvas were read into these; or they weren't, and the source's numbers at the
-- tile's place are they.
abbrev pub AreRead : Bool → PixelSource → Rect → Canvas → List ℕ → Type 0
AreRead true s tile canvas values = values ≡ values_of tile.w tile.h canvas
AreRead false s tile canvas values = LooksLike tile.w tile.h canvas (part_of (place_in s tile) (value_at s.width s.numbers.now))

-- These are the pixel values of a tile of w by h that shows a canvas.
pub record AreOfTile (seen : TileValues) (w h : ℕ) (canvas : Canvas) : Type 0 where
  pub lies : LiesAmong seen.values.now seen.width seen.tile
  pub wide : seen.tile.w ≡ w
  pub high : seen.tile.h ≡ h
  pub looks : LooksLike w h canvas (part_of seen.tile (value_at seen.width seen.values.now))

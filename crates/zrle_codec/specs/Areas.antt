-- The tiles of a rectangle in ZRLE, and the part of a zlib stream that is made of them (RFC 6143, 7.7.6).
use Rattle.std.specs.Prelude.{◌≡◌, ℕ, ◌+◌, ◌-◌, ◌*◌, ◌/◌, ◌%◌, min, List, [], ◌++◌}
use Rattle.pixel_format.specs.PixelFormat.{PixelFormat, tint}
use Rattle.raster.specs.Screen.{Canvas, kept, part_of, value_at, values_of}
use Rattle.raster.specs.declared.rect.Rect.{Rect}
use Rattle.deflate.specs.Parts.{IsPart}
use Rattle.zrle_codec.specs.Cpixel.{received}
use Rattle.zrle_codec.specs.Tiles.{SpellsTile}

-- How many tiles of 64 by 64 there are across a width, or down a height.
abbrev pub zrle_tiles_across : ℕ → ℕ
zrle_tiles_across w = (w + 63) / 64

-- How many tiles a rectangle of w by h has.
abbrev pub zrle_tile_count : ℕ → ℕ → ℕ
zrle_tile_count w h = zrle_tiles_across w * zrle_tiles_across h

-- Where tile number t of such a rectangle lies, from 0 on, row after row from the top and each row from the left. Tiles
-- at the right and at the bottom are cut to the width and height.
abbrev pub zrle_tile_rect : ℕ → ℕ → ℕ → Rect
zrle_tile_rect w h t =
    let x = t % zrle_tiles_across w * 64 in
    let y = t / zrle_tiles_across w * 64 in
    record { x = x; y = y; w = min 64 (w - x); h = min 64 (h - y) }

-- The first tiles, so many, of a rectangle of w by h that shows a canvas of pixel values: each is spelled, one behind
-- another.
pub data SpellsTiles : (format : PixelFormat) (w h : ℕ) (canvas : Canvas) (count : ℕ) (bytes : List ℕ) → Type 0 where
  none : (format : PixelFormat) (w h : ℕ) (canvas : Canvas) → SpellsTiles format w h canvas 0 []
  tile : (format : PixelFormat) (w h : ℕ) (canvas : Canvas) (count : ℕ) (bytes more : List ℕ) → SpellsTiles format w h canvas count bytes
      → SpellsTile format (zrle_tile_rect w h count).w (zrle_tile_rect w h count).h (values_of (zrle_tile_rect w h count).w (zrle_tile_rect w h count).h (part_of (zrle_tile_rect w h count) canvas)) more
      → SpellsTiles format w h canvas (count + 1) (bytes ++ more)

-- A part inflates to all tiles of a rectangle that shows a canvas, whatever was inflated before it.
pub record IsZrle (format : PixelFormat) (w h : ℕ) (canvas : Canvas) (part : List ℕ) : Type 0 where
  pub bytes : List ℕ
  pub spells : SpellsTiles format w h canvas (zrle_tile_count w h) bytes
  pub inflates : IsPart part bytes

-- The pixel values of an area of a screen of colours, which stand in rows of a width, each as it is received.
abbrev pub area_values : PixelFormat → ℕ → List ℕ → Rect → Canvas
area_values format width colours area = kept (λ colour. received format (tint format colour)) (part_of area (value_at width colours))

-- Behind the old bytes stands such a part.
pub record AppendsZrle (format : PixelFormat) (w h : ℕ) (canvas : Canvas) (old new : List ℕ) : Type 0 where
  pub part : List ℕ
  pub is : IsZrle format w h canvas part
  pub appended : new ≡ old ++ part

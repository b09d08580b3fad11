-- What a viewer reads of a connection's rectangles in ZRLE, whose zlib data are one stream (RFC 6143, 7.7.6).
-- `specs/OneThing` says that it is one thing alone.
use Rattle.std.specs.Prelude.{◌≡◌, ℕ, List, [], ◌∷◌, ◌++◌, Option, Some, None}
use Rattle.pixel_format.specs.PixelFormat.{PixelFormat}
use Rattle.raster.specs.Screen.{Canvas}
use Rattle.deflate.specs.Bits.{bits_of}
use Rattle.deflate.specs.Inflates.{Inflates}
use Rattle.zrle_codec.specs.Areas.{SpellsTiles, zrle_tile_count}

-- The state of a stream is what was inflated so far, or None before the first rectangle, in front of whose data stand
-- the stream's first two bytes (RFC 1950, 2.2).
abbrev pub zlib_head : Option (List ℕ) → List ℕ
zlib_head None = 0x78 ∷ 0x01 ∷ []
zlib_head (Some bytes) = []

-- What was inflated so far.
abbrev pub inflated : Option (List ℕ) → List ℕ
inflated None = []
inflated (Some bytes) = bytes

-- In the state before, the data of a rectangle of w by h bring these pixel values, and leave the state after: they are
-- whole blocks, which inflate to the rectangle's tiles.
pub record ReadsZrle (format : PixelFormat) (w h : ℕ) (before : Option (List ℕ)) (zlib_data : List ℕ) (canvas : Canvas) (after : Option (List ℕ)) : Type 0 where
  pub blocks : List ℕ
  pub tiles : List ℕ
  pub begins : zlib_data ≡ zlib_head before ++ blocks
  pub inflates : Inflates (inflated before) (bits_of blocks) (inflated before ++ tiles)
  pub brings : SpellsTiles format w h canvas (zrle_tile_count w h) tiles
  pub leaves : after ≡ Some (inflated before ++ tiles)

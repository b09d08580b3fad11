-- What a viewer that takes ZRLE reads of an update (RFC 6143, 7.6.1, 7.7). All rectangles of a connection in ZRLE are
-- one zlib stream (7.7.6), whose state they lead on.
use Rattle.std.specs.Prelude.{◌≡◌, ℕ, suc, not, ◌==◌, List, [], ◌∷◌, ◌++◌}
use Rattle.pixel_format.specs.PixelFormat.{PixelFormat}
use Rattle.byte_reading.specs.Reading.{Reading, ◌>>=◌, byte, padding, u16, unless, Spells}
use Rattle.fault.specs.declared.kinds.Fault.TheVariants.{UnknownMessage}
use Rattle.raster.specs.declared.rect.Rect.{Rect}
use Rattle.raster.specs.Screen.{Canvas, IsWithin, values_of}
use Rattle.raster.specs.Update.{Paint, Put}
use Rattle.rfb_wire.specs.ServerMessage.{rectangle}
use Rattle.zrle_codec.specs.Reading.{ReadsZrle}
use Rattle.zrle_answer.specs.Rectangle.{ZlibStream, zrle_rectangle}

-- One rectangle, on a screen of w by h. In the other encodings it leaves the stream as it was. In ZRLE it puts the
-- pixel values that its zlib data bring.
pub data ReadsRectangle : (format : PixelFormat) (w h : ℕ) (before : ZlibStream) (bytes : List ℕ) (paint : Paint) (after : ZlibStream) → Type 0 where
  in_another : (format : PixelFormat) (w h : ℕ) (stream : ZlibStream) (bytes : List ℕ) (paint : Paint) → Spells (rectangle format w h) bytes paint → ReadsRectangle format w h stream bytes paint stream
  in_zrle : (format : PixelFormat) (w h : ℕ) (before after : ZlibStream) (bytes zlib_data : List ℕ) (area : Rect) (canvas : Canvas)
      → Spells zrle_rectangle bytes (area, zlib_data) → IsWithin area w h → ReadsZrle format area.w area.h before zlib_data canvas after
      → ReadsRectangle format w h before bytes (Put area (values_of area.w area.h canvas)) after

-- So many rectangles, one behind another.
pub data ReadsRectangles : (format : PixelFormat) (w h count : ℕ) (before : ZlibStream) (bytes : List ℕ) (paints : List Paint) (after : ZlibStream) → Type 0 where
  none : (format : PixelFormat) (w h : ℕ) (stream : ZlibStream) → ReadsRectangles format w h 0 stream [] [] stream
  one_more : (format : PixelFormat) (w h count : ℕ) (before between after : ZlibStream) (first others : List ℕ) (paint : Paint) (paints : List Paint)
      → ReadsRectangle format w h before first paint between → ReadsRectangles format w h count between others paints after
      → ReadsRectangles format w h (suc count) before (first ++ others) (paint ∷ paints) after

-- The header of a FramebufferUpdate, which counts its rectangles: type 0, padding, and the count (7.6.1).
abbrev pub update_head : Reading ℕ
update_head = byte >>= λ kind. unless (not (kind == 0)) (UnknownMessage kind) (padding 1 u16)

-- These bytes are exactly one FramebufferUpdate: a header, and as many rectangles as it counts.
pub record ReadsUpdate (format : PixelFormat) (w h : ℕ) (before : ZlibStream) (bytes : List ℕ) (paints : List Paint) (after : ZlibStream) : Type 0 where
  pub count : ℕ
  pub head : List ℕ
  pub others : List ℕ
  pub begins : bytes ≡ head ++ others
  pub counts : Spells update_head head count
  pub rectangles : ReadsRectangles format w h count before others paints after

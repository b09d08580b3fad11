-- The bytes of an answer that may have rectangles in ZRLE (RFC 6143, 7.6.1, 7.7).
use Rattle.std.specs.Prelude.{◌≡◌, ℕ, ◌^◌, ◌<◌, Bool, true, ◌&&◌, List, [], ◌∷◌, ◌++◌, length, Option, Some, None}
use Rattle.pixel_format.specs.PixelFormat.{PixelFormat, tint}
use Rattle.raster.specs.declared.rect.Rect.{Rect}
use Rattle.raster.specs.Screen.{Canvas, kept, part_of}
use Rattle.raster.specs.Update.{Paint}
use Rattle.update_encoder.specs.Answer.{spelled}
use Rattle.update_encoder.specs.Coming.{front_bytes}
use Rattle.update_encoder.specs.Style.{Style}
use Rattle.zrle_codec.specs.Areas.{IsZrle}
use Rattle.zrle_codec.specs.Reading.{inflated, zlib_head}
use Rattle.zrle_answer.specs.Rectangle.{ZlibStream, zrle_rectangle_bytes}

-- How the rectangles of an answer are written, and whether they may be in ZRLE.
pub record ZrleStyle : Type 0 where
  pub plain : Style
  pub may_zrle : Bool

-- The pixel values of a rectangle of the screen in a format.
abbrev pub shown_in : PixelFormat → Canvas → Rect → Canvas
shown_in format screen r = kept (tint format) (part_of r screen)

-- The bytes of a rectangle. They are those of an answer without ZRLE; or, where ZRLE may be used, the rectangle is in
-- ZRLE, and its zlib data are the stream's head, where they are the first, and a part of its pixel values in the
-- style's format. Which of the two it is is left open.
pub data IsSpelled : (style : ZrleStyle) (screen : Canvas) (may_copy : Bool) (above : Option Rect) (r : Rect) (before : ZlibStream) (bytes : List ℕ) (after : ZlibStream) → Type 0 where
  without : (style : ZrleStyle) (screen : Canvas) (may_copy : Bool) (above : Option Rect) (r : Rect) (stream : ZlibStream)
      → IsSpelled style screen may_copy above r stream (spelled style.plain screen may_copy above r) stream
  compressed : (style : ZrleStyle) (screen : Canvas) (may_copy : Bool) (above : Option Rect) (r : Rect) (before : ZlibStream) (part : List ℕ)
      → style.may_zrle ≡ true → (is : IsZrle style.plain.format r.w r.h (shown_in style.plain.format screen r) part) → length (zlib_head before ++ part) < 2 ^ 32
      → IsSpelled style screen may_copy above r before (zrle_rectangle_bytes r (zlib_head before ++ part)) (Some (inflated before ++ is.bytes))

-- The bytes of these rectangles, one behind another, given the one before the first.
pub data AreSpelled : (style : ZrleStyle) (screen : Canvas) (may_copy : Bool) (above : Option Rect) (rectangles : List Rect) (before : ZlibStream) (bytes : List ℕ) (after : ZlibStream) → Type 0 where
  none : (style : ZrleStyle) (screen : Canvas) (may_copy : Bool) (above : Option Rect) (stream : ZlibStream) → AreSpelled style screen may_copy above [] stream [] stream
  one_more : (style : ZrleStyle) (screen : Canvas) (may_copy : Bool) (above : Option Rect) (r : Rect) (rectangles : List Rect) (before between after : ZlibStream) (first others : List ℕ)
      → IsSpelled style screen may_copy above r before first between → AreSpelled style screen may_copy (Some r) rectangles between others after
      → AreSpelled style screen may_copy above (r ∷ rectangles) before (first ++ others) after

-- A FramebufferUpdate of copies of the host, and behind them of these rectangles of the screen, which leads the stream
-- from before to after. For a rectangle CopyRect is used where the viewer takes it and each tile that was due was sent
-- to it before.
pub record IsAnswer (style : ZrleStyle) (screen : Canvas) (copies : List Paint) (all_were_sent : Bool) (rectangles : List Rect) (before : ZlibStream) (bytes : List ℕ) (after : ZlibStream) : Type 0 where
  pub others : List ℕ
  pub are : bytes ≡ front_bytes copies (length rectangles) ++ others
  pub spelled_so : AreSpelled style screen (style.plain.choice.copy && all_were_sent) None rectangles before others after

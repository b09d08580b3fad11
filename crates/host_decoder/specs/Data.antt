-- How reading the data of one rectangle of a host goes on, and how much of them is painted (RFC 6143, 7.7).
use Rattle.std.specs.Prelude.{◌≡◌, ℕ, ◌+◌, ◌*◌, ◌-◌, ◌<◌, Bool, true, false, List, [], ◌∷◌, ◌++◌, length, map, Result, Ok, Err, None}
use Rattle.pixel_format.specs.PixelFormat.{host_format}
use Rattle.byte_reading.specs.Reading.{Reading, Done, Faulty, ◌>>=◌, after, taken, times, wants_more, fault_of, Spells}
use Rattle.fault.specs.declared.kinds.Fault.{Fault}
use Rattle.raster.specs.declared.rect.Rect.{Rect}
use Rattle.raster.specs.Encoding.{pixel, drawn, tiled}
use Rattle.raster.specs.Reader.{values_read}
use Rattle.raster.specs.Screen.{Canvas, LooksLike, part_of, value_at}
use Rattle.raster.specs.Update.{Paint, Put}
use Rattle.painter.specs.Drawing.{IsPaintedAround}
use Rattle.painter.specs.Painter.{Painting, IsPaintedOver, worked}
use Rattle.rfb_wire.specs.ServerHeads.{copy_source}
use Rattle.rfb_wire.specs.ServerMessage.{copy_rect}
use Rattle.hextile_codec.specs.Ahead as hextile
use Rattle.rre_codec.specs.Ahead as rre
use Rattle.host_decoder.specs.Updates.{colour_of, in_colours}
use Rattle.host_decoder.specs.DataParts.{RawProgress}
use Rattle.host_decoder.specs.declared.body.Body.{Body}
use Rattle.host_decoder.specs.declared.body.Body.TheVariants as body

-- The pixel values that are read are put on the rectangle.
abbrev pub putting : Rect → Reading (List ℕ) → Reading Paint
putting area values = values >>= λ vs. Done (Put area vs)

-- A reader that stood at `reading` was fed a piece, and answers how many bytes it used, or the fault at which it then
-- stands.
abbrev pub FedAs : Reading Paint → List ℕ → Result ℕ Fault → Type 0
FedAs reading piece (Ok used) = (used ≡ taken reading piece) × (fault_of (after reading piece) ≡ None)
FedAs reading piece (Err fault) = after reading piece ≡ Faulty fault

-- A rectangle shows the values of a paint, in colours.
pub record IsDrawnAs (area : Rect) (canvas : Canvas) (painted : Paint) : Type 0 where
  pub values : List ℕ
  pub is : painted ≡ Put area values
  pub shows : LooksLike area.w area.h canvas (value_at area.w (map colour_of values))

-- ---- Raw

-- What is to come after the pixels of these values.
abbrev pub raw_ahead : RawProgress → List ℕ → Reading (List ℕ)
raw_ahead p values = after (times (p.count - length values) (pixel host_format) >>= λ more. Done (values ++ more)) p.begun

-- The first positions of a rectangle, row after row, show these values, in colours.
abbrev pub ShowsFirst : Rect → Canvas → List ℕ → Type 0
ShowsFirst area canvas values = (x y : ℕ) → x < area.w → y < area.h → y * area.w + x < length values → canvas x y ≡ colour_of (value_at area.w values x y)

-- The pixels that have come are shown.
pub record RawStands (area : Rect) (p : RawProgress) (canvas : Canvas) (reading : Reading Paint) : Type 0 where
  pub values : List ℕ
  pub done : p.done ≡ length values
  pub count : p.count ≡ area.w * area.h
  pub shows : ShowsFirst area canvas values
  pub reads : reading ≡ putting area (raw_ahead p values)

-- Bytes were taken, each of which was wanted.
pub record RawTakes (area : Rect) (new : RawProgress) (canvas : Canvas) (reading : Reading Paint) (bytes : List ℕ) : Type 0 where
  pub stands : RawStands area new canvas (after reading bytes)
  pub all : taken reading bytes ≡ length bytes

-- It reads a rectangle of this size.
pub record IsRawFor (area : Rect) (p : RawProgress) : Type 0 where
  pub width : p.width ≡ area.w
  pub count : p.count ≡ area.w * area.h

-- ---- CopyRect

-- These bytes of the source have come.
abbrev pub CopyStands : ℕ → ℕ → Rect → List ℕ → Reading Paint → Type 0
CopyStands w h area begun reading = reading ≡ after (copy_rect w h area) begun

-- The source of a rectangle that these bytes spell: the place that they name, of the rectangle's size.
abbrev pub IsSource : Rect → List ℕ → Rect → Type 0
IsSource area begun source = Spells copy_source begun (source.x, source.y) × (source.w ≡ area.w) × (source.h ≡ area.h)

-- ---- RRE and Hextile

-- A reader of a codec reads a rectangle of this size.
abbrev pub IsCodecFor : {P : Type 0} → (width height : P → ℕ) → Rect → P → Type 0
IsCodecFor width height area p = (width p ≡ area.w) × (height p ≡ area.h)

-- A codec's reader is under way: the rectangle shows what was read so far, and reading goes on as `ahead` says, to a
-- picture whose pixel values are put on the rectangle.
pub record CodecStands {P S A : Type 0} (width height : P → ℕ) (picture : ℕ → ℕ → A → Canvas) (ahead : P → S → Reading A) (Stands : P → Canvas → S → Type 0) (area : Rect) (p : P) (canvas : Canvas) (reading : Reading Paint) : Type 0 where
  pub sofar : S
  pub width_is : width p ≡ area.w
  pub height_is : height p ≡ area.h
  pub stands : Stands p canvas sofar
  pub reads : reading ≡ putting area (values_read area.w area.h (picture area.w area.h) (ahead p sofar))

abbrev pub IsRreFor : Rect → rre.Progress → Type 0
IsRreFor = IsCodecFor (λ p. p.width) (λ p. p.height)

abbrev pub RreStands : Rect → rre.Progress → Canvas → Reading Paint → Type 0
RreStands = CodecStands (λ p. p.width) (λ p. p.height) (λ w h drawing. drawn drawing) rre.ahead (rre.Stands colour_of)

abbrev pub IsHextileFor : Rect → hextile.Progress → Type 0
IsHextileFor = IsCodecFor (λ p. p.width) (λ p. p.height)

abbrev pub HextileStands : Rect → hextile.Progress → Canvas → Reading Paint → Type 0
HextileStands = CodecStands (λ p. p.width) (λ p. p.height) tiled hextile.ahead (hextile.Stands colour_of)

-- ---- any encoding

-- What is kept of the data of a rectangle on a screen of width by height.
pub record DataProgress : Type 0 where
  pub width : ℕ
  pub height : ℕ
  pub area : Rect
  pub body : Body

-- It reads a rectangle of this size.
abbrev pub IsBodyFor : Rect → Body → Type 0
IsBodyFor area (body.Raw p) = IsRawFor area p
IsBodyFor area (body.Copy begun) = Unit {0}
IsBodyFor area (body.Rre p) = IsRreFor area p
IsBodyFor area (body.Hextile p) = IsHextileFor area p

-- Another byte is wanted, whatever was painted.
abbrev pub IsBodyWanting : Body → Type 0
IsBodyWanting (body.Raw p) = p.done < p.count
IsBodyWanting (body.Copy begun) = length begun < 4
IsBodyWanting (body.Rre p) = rre.IsWanting p
IsBodyWanting (body.Hextile p) = hextile.IsWanting p

abbrev pub IsWanting : DataProgress → Type 0
IsWanting d = IsBodyWanting d.body

-- The painter shows what was painted before, over the screen at the update's start, and whatever of this rectangle was
-- painted so far; a CopyRect isn't painted before it is whole.
abbrev pub BodyStands : ℕ → ℕ → Rect → Body → Canvas → List Paint → Painting → Reading Paint → Type 0
BodyStands w h area (body.Raw p) start paints painter reading = IsPaintedAround start paints area painter × RawStands area p (part_of area (worked painter)) reading
BodyStands w h area (body.Copy begun) start paints painter reading = IsPaintedOver start paints painter × CopyStands w h area begun reading
BodyStands w h area (body.Rre p) start paints painter reading = IsPaintedAround start paints area painter × RreStands area p (part_of area (worked painter)) reading
BodyStands w h area (body.Hextile p) start paints painter reading = IsPaintedAround start paints area painter × HextileStands area p (part_of area (worked painter)) reading

-- What is kept of a rectangle's data stands at `reading`, after these paints.
abbrev pub DataStands : DataProgress → Canvas → List Paint → Painting → Reading Paint → Type 0
DataStands d start paints painter reading = BodyStands d.width d.height d.area d.body start paints painter reading

-- Both are of one rectangle on one screen.
pub record IsSameArea (old new : DataProgress) : Type 0 where
  pub width : new.width ≡ old.width
  pub height : new.height ≡ old.height
  pub area : new.area ≡ old.area

-- The rectangle is whole, and is one paint more.
pub record IsWhole (start : Canvas) (paints : List Paint) (painter : Painting) (reading : Reading Paint) : Type 0 where
  pub painted : Paint
  pub reads : reading ≡ Done painted
  pub shows : IsPaintedOver start (paints ++ in_colours painted ∷ []) painter

-- A reader that stood at `reading`, after these paints, was fed a piece. It answers how many bytes it used, and whether
-- the rectangle is whole; or it answers the fault. Where the rectangle isn't whole, another byte is wanted.
abbrev pub Fed : (Stands : Reading Paint → Type 0) → Canvas → List Paint → Painting → Reading Paint → List ℕ → Result (ℕ × Bool) Fault → Type 0
Fed Stands start paints painter reading piece (Ok (used, true)) = IsWhole start paints painter (after reading piece) × (used ≡ taken reading piece)
Fed Stands start paints painter reading piece (Ok (used, false)) = Stands (after reading piece) × (wants_more (after reading piece) ≡ true) × (used ≡ taken reading piece)
Fed Stands start paints painter reading piece (Err fault) = after reading piece ≡ Faulty fault

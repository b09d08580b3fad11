-- How reading RRE goes on (RFC 6143, 7.7.3).
use Rattle.std.specs.Prelude.{◌≡◌, ℕ, ◌+◌, List, ◌++◌, length, Bool, true, false, nat_lt}
use Rattle.pixel_format.specs.PixelFormat.{PixelFormat, pixel_len}
use Rattle.byte_reading.specs.Reading.{Reading, Done, Faulty, ◌>>=◌, after, taken, times, wants_more}
use Rattle.fault.specs.declared.kinds.Fault.TheVariants.{SubrectOutside}
use Rattle.raster.specs.Screen.{Canvas, LooksLike, kept}
use Rattle.raster.specs.Encoding.{Drawing, drawn, rre, rre_subrect}
use Rattle.rre_codec.specs.declared.stage.Stage.{Stage}
use Rattle.rre_codec.specs.declared.stage.Stage.TheVariants.{Head, Subrects, Outside}

-- How far a reader of a rectangle has come: what the next bytes are, and those of them that have come.
pub record Progress : Type 0 where
  pub format : PixelFormat
  pub width : ℕ
  pub height : ℕ
  pub stage : Stage
  pub begun : List ℕ

-- This many subrectangles are still to come, over what was drawn so far.
abbrev pub to_come : PixelFormat → ℕ → ℕ → Drawing → ℕ → Reading Drawing
to_come format w h sofar count =
    times count (rre_subrect format w h) >>= λ more. Done (record { background = sofar.background; subrects = sofar.subrects ++ more })

-- What the next bytes are read as, over what was drawn so far.
abbrev pub next_form : PixelFormat → ℕ → ℕ → Stage → Drawing → Reading Drawing
next_form format w h Head sofar = rre format w h
next_form format w h (Subrects count) sofar = to_come format w h sofar count
next_form format w h Outside sofar = Faulty SubrectOutside

-- How reading goes on.
abbrev pub ahead : Progress → Drawing → Reading Drawing
ahead p sofar = after (next_form p.format p.width p.height p.stage sofar) p.begun

-- Once the background is drawn, a canvas shows what it keeps of what was drawn so far. After a fault nothing is said of
-- the canvas.
abbrev pub IsDrawn : (keeps : ℕ → ℕ) → ℕ → ℕ → Stage → Canvas → Drawing → Type 0
IsDrawn keeps w h Head canvas sofar = Unit {0}
IsDrawn keeps w h (Subrects count) canvas sofar = LooksLike w h canvas (kept keeps (drawn sofar))
IsDrawn keeps w h Outside canvas sofar = Unit {0}

-- A canvas shows what it keeps of what a reader has read so far.
abbrev pub Stands : (keeps : ℕ → ℕ) → Progress → Canvas → Drawing → Type 0
Stands keeps p canvas sofar = IsDrawn keeps p.width p.height p.stage canvas sofar

-- Another byte is wanted, whatever was drawn so far.
abbrev pub IsWanting : Progress → Type 0
IsWanting p = (sofar : Drawing) → wants_more (ahead p sofar) ≡ true

-- Readers of rectangles of one size and format.
pub record IsSameSize (old new : Progress) : Type 0 where
  pub format : new.format ≡ old.format
  pub width : new.width ≡ old.width
  pub height : new.height ≡ old.height

-- All of these bytes are wanted, they lead from one stage to the next, and what they say was drawn.
pub record Led (keeps : ℕ → ℕ) (format : PixelFormat) (w h : ℕ) (stage next : Stage) (bytes : List ℕ) (now : Canvas) (sofar : Drawing) : Type 0 where
  pub drawing : Drawing
  pub takes : taken (next_form format w h stage sofar) bytes ≡ length bytes
  pub reads : after (next_form format w h stage sofar) bytes ≡ next_form format w h next drawing
  pub shows : IsDrawn keeps w h next now drawing

-- The bytes led to the next stage, where the canvas showed before what was drawn so far.
abbrev pub Leads : (keeps : ℕ → ℕ) → PixelFormat → ℕ → ℕ → Stage → Stage → List ℕ → Canvas → Canvas → Drawing → Type 0
Leads keeps format w h stage next bytes before now sofar = IsDrawn keeps w h stage before sofar → Led keeps format w h stage next bytes now sofar

-- How many bytes are looked at together.
abbrev pub needed : PixelFormat → Stage → ℕ
needed format Head = 4 + pixel_len format
needed format (Subrects count) = pixel_len format + 8
needed format Outside = pixel_len format + 8

-- Whether another byte is wanted.
abbrev pub is_open : Stage → Bool
is_open Head = true
is_open (Subrects count) = nat_lt 0 count
is_open Outside = false

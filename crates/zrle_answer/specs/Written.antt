-- What is written of a rectangle in ZRLE.
use Rattle.std.specs.Prelude.{◌≡◌, ℕ, ◌<◌, Bool, true, false, List, [], ◌∷◌, ◌++◌, length, take, Option, Some, None}
use Rattle.pixel_format.specs.PixelFormat.{PixelFormat}
use Rattle.raster.specs.declared.rect.Rect.{Rect}
use Rattle.raster.specs.Screen.{Canvas, IsWithin}
use Rattle.raster.specs.Size.{IsScreenSize}
use Rattle.raster.specs.Update.{Paint, Update, screen}
use Rattle.reflect_core.specs.declared.cut.Cut.{Cut}
use Rattle.reflect_core.specs.Source.{IsCutOf, copies_in, marked}
use Rattle.tiles.specs.Have.{SentTiles}
use Rattle.update_encoder.specs.Written.{is_still_due_of}
use Rattle.tiles.specs.Brings.{BringTheDue}
use Rattle.update_encoder.specs.Coming.{shown}
use Rattle.update_encoder.specs.Style.{Style}
use Rattle.zrle_answer.specs.Rectangle.{ZlibStream}
use Rattle.zrle_answer.specs.Answer.{ZrleStyle, IsSpelled, AreSpelled, IsAnswer}
use Rattle.zrle_answer.specs.declared.answer.Unwritten.{Unwritten}
use Rattle.zrle_answer.specs.declared.answer.Unwritten.TheVariants.{Memory, TooLong, NotWorthIt}

-- The stream's first bytes came already. No more has to be kept of its state (own).
abbrev pub has_begun : ZlibStream → Bool
has_begun None = false
has_begun (Some bytes) = true

-- The bytes in front of a part: the stream's first two, unless they came already (RFC 1950, 2.2).
abbrev pub head_unless : (begun : Bool) → List ℕ
head_unless false = 0x78 ∷ 0x01 ∷ []
head_unless true = []

-- In an answer in this format that may have ZRLE, these bytes spell a rectangle of the screen, in each state in which
-- the stream has begun, or hasn't, and wherever the rectangle stands.
abbrev pub SpellsInEach : PixelFormat → Canvas → Rect → Bool → List ℕ → Type 0
SpellsInEach format screen r begun bytes =
    (style : ZrleStyle) (may_copy : Bool) (above : Option Rect) (before : ZlibStream) → style.plain.format ≡ format → style.may_zrle ≡ true → has_begun before ≡ begun
    → (after : ZlibStream) × IsSpelled style screen may_copy above r before bytes after × (has_begun after ≡ true)

-- Behind the old bytes stand such bytes.
pub record AppendsRectangle (format : PixelFormat) (screen : Canvas) (r : Rect) (begun : Bool) (old new : List ℕ) : Type 0 where
  pub bytes : List ℕ
  pub appended : new ≡ old ++ bytes
  pub spells : SpellsInEach format screen r begun bytes

-- ---- a whole answer

-- A style in which ZRLE may be used.
abbrev pub with_zrle : Style → ZrleStyle
with_zrle plain = record { plain = plain; may_zrle = true }

-- These bytes spell the next rectangle of an answer that may have ZRLE, given the one before it, in each state in which
-- the stream has begun, or hasn't. Whether it has begun then is `now`.
abbrev pub SpellsNext : Style → Canvas → (may_copy : Bool) → (above : Option Rect) → Rect → (begun now : Bool) → (bytes : List ℕ) → Type 0
SpellsNext style screen may_copy above r begun now bytes =
    (before : ZlibStream) → has_begun before ≡ begun → (after : ZlibStream) × IsSpelled (with_zrle style) screen may_copy above r before bytes after × (has_begun after ≡ now)

-- So do they spell several rectangles, one behind another.
abbrev pub SpellsAll : Style → Canvas → (may_copy : Bool) → (above : Option Rect) → List Rect → (begun now : Bool) → (bytes : List ℕ) → Type 0
SpellsAll style screen may_copy above rectangles begun now bytes =
    (before : ZlibStream) → has_begun before ≡ begun → (after : ZlibStream) × AreSpelled (with_zrle style) screen may_copy above rectangles before bytes after × (has_begun after ≡ now)

-- Behind the old bytes stand bytes of a rectangle.
pub record AppendsNext (style : Style) (screen : Canvas) (may_copy : Bool) (above : Option Rect) (r : Rect) (begun now : Bool) (old new : List ℕ) : Type 0 where
  pub bytes : List ℕ
  pub appended : new ≡ old ++ bytes
  pub spells : SpellsNext style screen may_copy above r begun now bytes

-- Behind the old bytes stand bytes of several rectangles.
pub record AppendsAll (style : Style) (screen : Canvas) (may_copy : Bool) (above : Option Rect) (rectangles : List Rect) (begun now : Bool) (old new : List ℕ) : Type 0 where
  pub bytes : List ℕ
  pub appended : new ≡ old ++ bytes
  pub spells : SpellsAll style screen may_copy above rectangles begun now bytes

-- These bytes are a whole answer of copies, and of what a screen of w by h shows in the due tiles of an area, in each
-- state in which the stream has begun, or hasn't. Whether it has begun after the answer is `now`.
pub record IsWhole (style : Style) (w h : ℕ) (area : Rect) (screen : Canvas) (copies : List Paint) (due : ℕ → Bool) (all_were_sent begun now : Bool) (bytes : List ℕ) : Type 0 where
  pub rectangles : List Rect
  pub brings : BringTheDue w h area due rectangles
  pub answers : (before : ZlibStream) → has_begun before ≡ begun
      → (after : ZlibStream) × IsAnswer (with_zrle style) screen copies all_were_sent rectangles before bytes after × (has_begun after ≡ now)

-- What was written of a cut is such an answer.
abbrev pub IsWholeOf : Style → Cut → Rect → (begun now : Bool) → (bytes : List ℕ) → Type 0
IsWholeOf style cut area begun now bytes = IsWhole style cut.width cut.height area (shown cut) (copies_in cut) (marked cut) cut.all_were_sent begun now bytes

-- An answer of a cut is one of the screen that was cut, in the tiles that were still due there.
abbrev pub CutsAreAnswered : Type 0
CutsAreAnswered =
    (us : List Update) (n : ℕ) (area : Rect) (have : SentTiles) (since : Option ℕ) (cut : Cut) (style : Style) (begun now : Bool) (bytes : List ℕ)
    → IsCutOf us n area have since cut → have.width ≡ cut.width → have.height ≡ cut.height → IsScreenSize cut.width cut.height → IsWithin area cut.width cut.height
    → IsWholeOf style cut area begun now bytes
    → IsWhole style cut.width cut.height area (screen (take n us)) (copies_in cut) (is_still_due_of have area since (take n us)) cut.all_were_sent begun now bytes

-- Why no answer was written: memory was refused; or it has more bytes than a limit, as those have that were written; or
-- it isn't worth it, which is open.
abbrev pub IsWhy : Unwritten → (limit : ℕ) → (written : List ℕ) → Type 0
IsWhy Memory limit written = Unit {0}
IsWhy TooLong limit written = limit < length written
IsWhy NotWorthIt limit written = Unit {0}

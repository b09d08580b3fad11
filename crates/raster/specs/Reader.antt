-- What a codec's reader of a rectangle makes of the bytes that come to it.
use Rattle.std.specs.Prelude.{◌≡◌, ℕ, List, length, Result}
use Rattle.fault.specs.declared.kinds.Fault.{Fault}
use Rattle.byte_reading.specs.Reading.{Reading, Done, ◌>>=◌, after, taken, Feeds}
use Rattle.raster.specs.Screen.{Canvas, values_of}

-- The pixel values, row after row, of a rectangle of w by h that shows the picture of what is read.
abbrev pub values_read : {A : Type 0} → ℕ → ℕ → (A → Canvas) → Reading A → Reading (List ℕ)
values_read w h picture reading = reading >>= λ read. Done (values_of w h (picture read))

-- All of these bytes are taken, and lead from this reading to the later one.
pub record Goes {A : Type 0} (form : Reading A) (bytes : List ℕ) (later : Reading A) : Type 0 where
  pub all : taken form bytes ≡ length bytes
  pub leads : after form bytes ≡ later

-- A reader took bytes, each of which was wanted, and drew what they say. It went on as ahead says of what was read so
-- far, and the canvas shows what is read by now.
pub record Steps {P S A : Type 0} (ahead : P → S → Reading A) (Stands : P → Canvas → S → Type 0) (old new : P) (now : Canvas) (bytes : List ℕ) (sofar : S) : Type 0 where
  pub drawing : S
  pub goes : Goes (ahead old sofar) bytes (ahead new drawing)
  pub stands : Stands new now drawing

-- A reader was fed a piece, and drew what it took of it.
pub record Draws {P S A : Type 0} (ahead : P → S → Reading A) (Stands : P → Canvas → S → Type 0) (old new : P) (now : Canvas) (piece : List ℕ) (answer : Result ℕ Fault) (sofar : S) : Type 0 where
  pub drawing : S
  pub feeds : Feeds (ahead old sofar) (ahead new drawing) piece answer
  pub stands : Stands new now drawing

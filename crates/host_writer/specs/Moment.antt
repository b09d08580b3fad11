-- What a telling keeps at every moment, and what its steps do (own).
use Rattle.std.specs.Prelude.{◌≡◌, ℕ, max, nat_lt, if◌then◌else◌, Bool, true, false, List, [], ◌∷◌, ◌++◌}
use Rattle.roles.specs.Strokes.{Taken, StrokesKept, StrokesStand}
use Rattle.link.specs.Links.{LinkState}
use Rattle.link.specs.declared.give.Halt.{Halt}
use Rattle.link.specs.Halting.{IsWhy}
use Rattle.input_relay.specs.declared.queue.Message.{Message}
use Rattle.host_writer.specs.Saying.{Speech, begun, left_of}
use Rattle.host_writer.specs.Writing.{Did, IsJudged, Looked, all_taken, last_said, risen_to, said, taken_in}

-- ---- what a telling keeps

-- As in TellsSoFar, where the speech has what the writer says last, and `asked` is the greatest reply of its looks.
pub record IsTelling {S : Type 0} (looks : S → ℕ → S → Type 0) (source_old source_new : S)
    (taken_old taken_new : List Message) (strokes_old strokes_new : StrokesKept) (w h asked : ℕ)
    (speech : Speech) (old new : LinkState) : Type 0 where
  pub did : List Did
  pub all : List ℕ
  pub inputs : taken_new ≡ taken_old ++ taken_in did
  pub strokes : (before : List Taken) → StrokesStand strokes_old before
      → StrokesStand strokes_new (all_taken before did)
  pub looked : Looked looks source_old did source_new
  pub said : (before : List Taken) → StrokesStand strokes_old before
      → (all ≡ said before w h did) × (speech.said ≡ last_said before w h did)
  pub risen : asked ≡ risen_to did
  pub given : new.given ++ left_of speech ≡ old.given ++ all
  pub taken : new.taken ≡ old.taken

-- ---- its steps

-- An input was taken, and from now on its spelling is to be said; nothing is to be said where the input doesn't pass.
pub record TakesInput (taken_old taken_new : List Message) (strokes_old strokes_new : StrokesKept)
    (speech : Speech) : Type 0 where
  pub message : Message
  pub bytes : List ℕ
  pub took : taken_new ≡ taken_old ++ message ∷ []
  pub judged : IsJudged strokes_old strokes_new message bytes
  pub begins : speech ≡ begun bytes

-- An input was taken as in TakesInput (true), or there was none.
abbrev pub Takes : Bool → (taken_old taken_new : List Message) → (strokes_old strokes_new : StrokesKept)
    → (speech_old speech_new : Speech) → Type 0
Takes true taken_old taken_new strokes_old strokes_new speech_old speech_new =
    TakesInput taken_old taken_new strokes_old strokes_new speech_new
Takes false taken_old taken_new strokes_old strokes_new speech_old speech_new =
    (taken_new ≡ taken_old) × (strokes_new ≡ strokes_old) × (speech_new ≡ speech_old)

-- The source was looked at. From now on the request is to be said where the reply is above `asked_old`, and nothing
-- otherwise.
pub record LooksOnce {S : Type 0} (looks : S → ℕ → S → Type 0) (request : List ℕ) (source_old source_new : S)
    (asked_old asked_new : ℕ) (speech : Speech) : Type 0 where
  pub number : ℕ
  pub looked : looks source_old number source_new
  pub risen : asked_new ≡ max asked_old number
  pub begins : speech ≡ begun (if nat_lt asked_old number then request else [])

-- The link was given bytes from the front of those that were left, or none.
pub record Gives (speech_old speech_new : Speech) (old new : LinkState) : Type 0 where
  pub bytes : List ℕ
  pub left : left_of speech_old ≡ bytes ++ left_of speech_new
  pub said : speech_new.said ≡ speech_old.said
  pub given : new.given ≡ old.given ++ bytes
  pub taken : new.taken ≡ old.taken

-- The link neither failed nor ended.
abbrev pub IsOpen : (old new : LinkState) → Type 0
IsOpen old new = (new.failed ≡ old.failed) × (new.ended ≡ old.ended)

-- Why giving stops with bytes left of what is said.
abbrev pub StopsSaying : (was_set : Type 0) → Halt → Speech → (old new : LinkState) → Type 0
StopsSaying was_set halt speech old new = IsWhy was_set halt old new (left_of speech) speech.said

-- What the host is told once it is joined: those inputs taken from the relay that don't break into another place's
-- stroke, and a request whenever the reply of a look has risen (RFC 6143, 7.5.3 to 7.5.6; own).
use Rattle.std.specs.Prelude.{◌≡◌, ℕ, ◌≤◌, ◌<◌, ◌⊎◌, max, nat_lt, if◌then◌else◌, Bool, true, List, [], ◌∷◌, ◌++◌, length, map, Result, Ok, Err}
use Rattle.fault.specs.declared.kinds.Fault.{Fault}
use Rattle.fault.specs.declared.kinds.Fault.TheVariants.{LinkEnded, LinkFailed}
use Rattle.rfb_wire.specs.Writing.{request_bytes}
use Rattle.roles.specs.Held.{input_in}
use Rattle.roles.specs.Spelling.{input_bytes}
use Rattle.roles.specs.Strokes.{Taken, input_from, unbroken, passes_after, StrokesKept, StrokesStand}
use Rattle.link.specs.Links.{LinkState, HasRisen}
use Rattle.link.specs.declared.give.Halt.{Halt}
use Rattle.link.specs.declared.give.Halt.TheVariants as halt
use Rattle.input_relay.specs.declared.queue.Message.{Message}

-- One incremental request of the whole screen.
abbrev pub whole_request : ℕ → ℕ → List ℕ
whole_request w h = request_bytes true (record { x = 0; y = 0; w = w; h = h })

-- What a writer does: it takes an input from the relay, or it looks at its source and gets this reply.
pub data Did : Type 0 where
  Took : Message → Did
  Saw : (number : ℕ) → Did

-- A list of these has the latest first.

-- The inputs taken, in order.
abbrev pub taken_in : List Did → List Message
taken_in [] = []
taken_in (Took message ∷ ds) = taken_in ds ++ message ∷ []
taken_in (Saw number ∷ ds) = taken_in ds

-- An input that was taken, with the place that sent it.
abbrev pub taken_from : Message → Taken
taken_from message = input_from message.from (input_in message.input)

-- All inputs taken in a run: those taken before, perhaps for another host, and then those of these acts.
abbrev pub all_taken : List Taken → List Did → List Taken
all_taken before ds = before ++ map taken_from (taken_in ds)

-- Whether an input passes to the host, given all inputs that were taken before it.
abbrev pub is_told : List Taken → Message → List Did → Bool
is_told before message ds = passes_after (unbroken (all_taken before ds)) (taken_from message)

-- The inputs that pass, in order.
abbrev pub told : List Taken → List Did → List Taken
told before [] = []
told before (Took message ∷ ds) = told before ds ++ (if is_told before message ds then taken_from message ∷ [] else [])
told before (Saw number ∷ ds) = told before ds

-- The greatest reply of its looks, and 0 before the first.
abbrev pub risen_to : List Did → ℕ
risen_to [] = 0
risen_to (Took message ∷ ds) = risen_to ds
risen_to (Saw number ∷ ds) = max (risen_to ds) number

-- What the writer says for one act, given all acts before it: an input where it passes, and a request where the reply
-- of the look has risen.
abbrev pub says : List Taken → ℕ → ℕ → Did → List Did → List ℕ
says before w h (Took message) ds = if is_told before message ds then input_bytes (input_in message.input) else []
says before w h (Saw number) ds = if nat_lt (risen_to ds) number then whole_request w h else []

-- All that it says, in order.
abbrev pub said : List Taken → ℕ → ℕ → List Did → List ℕ
said before w h [] = []
said before w h (d ∷ ds) = said before w h ds ++ says before w h d ds

-- What it says last.
abbrev pub last_said : List Taken → ℕ → ℕ → List Did → List ℕ
last_said before w h [] = []
last_said before w h (d ∷ ds) = says before w h d ds

-- Nothing but these looks was done to the source, and each reply is the source's own.
abbrev pub Looked : {S : Type 0} → (S → ℕ → S → Type 0) → S → List Did → S → Type 0
Looked {S} looks old [] new = new ≡ old
Looked {S} looks old (Took message ∷ ds) new = Looked looks old ds new
Looked {S} looks old (Saw number ∷ ds) new = (before : S) × Looked looks old ds before × looks before number new

-- How it ends, where these bytes of what was said last aren't given. It is Ok where the flag was set, and where the
-- link said that it ended before the first byte of a spelling. Otherwise the link said that it ended inside a spelling,
-- or it failed.
abbrev pub EndsTelling : (was_set : Type 0) → Result (Unit {0}) Fault → (old new : LinkState)
    → (left last : List ℕ) → Type 0
EndsTelling was_set (Ok done) old new left last =
    (was_set × (new.failed ≡ old.failed) × (new.ended ≡ old.ended) × (length left ≤ length last))
    ⊎ (HasRisen old.ended new.ended × (new.failed ≡ old.failed) × (left ≡ last) × (0 < length last))
EndsTelling was_set (Err LinkEnded) old new left last =
    HasRisen old.ended new.ended × (0 < length left) × (length left < length last)
EndsTelling was_set (Err LinkFailed) old new left last =
    HasRisen old.failed new.failed × (0 < length left) × (length left ≤ length last)
EndsTelling was_set (Err fault) old new left last = ⊥

-- What is answered where giving stopped for this reason.
abbrev pub answer_at : Halt → Result (Unit {0}) Fault
answer_at halt.Stopped = Ok tt
answer_at halt.Before = Ok tt
answer_at halt.Inside = Err LinkEnded
answer_at halt.Failed = Err LinkFailed

-- What is true at every moment. The host was given all that the writer says, except perhaps the end of what it said
-- last. Where the strokes stood for the inputs taken before this host, they stand now for all inputs taken, and they
-- decide what is said. No byte was taken from the link.
pub record TellsSoFar {S : Type 0} (looks : S → ℕ → S → Type 0) (source_old source_new : S)
    (taken_old taken_new : List Message) (strokes_old strokes_new : StrokesKept) (w h : ℕ) (old new : LinkState)
    : Type 0 where
  pub did : List Did
  pub all : List ℕ
  pub last : List ℕ
  pub left : List ℕ
  pub inputs : taken_new ≡ taken_old ++ taken_in did
  pub strokes : (before : List Taken) → StrokesStand strokes_old before
      → StrokesStand strokes_new (all_taken before did)
  pub looked : Looked looks source_old did source_new
  pub said : (before : List Taken) → StrokesStand strokes_old before
      → (all ≡ said before w h did) × (last ≡ last_said before w h did)
  pub given : new.given ++ left ≡ old.given ++ all
  pub within : length left ≤ length last
  pub taken : new.taken ≡ old.taken

-- The same, and how the run ended.
pub record Tells {S : Type 0} (looks : S → ℕ → S → Type 0) (was_set : Type 0) (source_old source_new : S)
    (taken_old taken_new : List Message) (strokes_old strokes_new : StrokesKept) (w h : ℕ)
    (answer : Result (Unit {0}) Fault) (old new : LinkState) : Type 0 where
  pub so_far : TellsSoFar looks source_old source_new taken_old taken_new strokes_old strokes_new w h old new
  pub ends : EndsTelling was_set answer old new so_far.left so_far.last

-- ---- on the way

-- What is said for an input, where the strokes stood for the inputs taken before it. Afterwards they stand for that
-- input, too.
pub record IsJudged (strokes_old strokes_new : StrokesKept) (message : Message) (bytes : List ℕ) : Type 0 where
  pub said : (taken : List Taken) → StrokesStand strokes_old taken
      → bytes ≡ (if passes_after (unbroken taken) (taken_from message)
      then input_bytes (input_in message.input) else [])
  pub stands : (taken : List Taken) → StrokesStand strokes_old taken
      → StrokesStand strokes_new (taken ++ taken_from message ∷ [])

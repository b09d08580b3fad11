-- How reading a host's message goes on, by what its decoder and its painter hold (RFC 6143, 7.6).
use Rattle.std.specs.Prelude.{◌≡◌, ℕ, ◌+◌, ◌<◌, drop, length, Bool, true, false, List, [], ◌∷◌, ◌++◌, map, None, Result, Ok, Err, ◌⊎◌}
use Rattle.pixel_format.specs.PixelFormat.{host_format}
use Rattle.fault.specs.declared.kinds.Fault.{Fault}
use Rattle.fault.specs.declared.kinds.Fault.TheVariants.{Memory}
use Rattle.byte_reading.specs.Reading.{Reading, Done, Faulty, ◌>>=◌, after, taken, padding, times, u32, wants_more, fault_of}
use Rattle.raster.specs.Screen.{Canvas, IsWithin}
use Rattle.raster.specs.Size.{IsScreenSize}
use Rattle.raster.specs.Update.{Paint, Update, after_updates}
use Rattle.painter.specs.Painter.{Painting, IsPaintedOver}
use Rattle.rfb_wire.specs.ClientMessage.{text}
use Rattle.rfb_wire.specs.HeldText.{kept_text}
use Rattle.rfb_wire.specs.ServerMessage.{ServerMessage, FramebufferUpdate, ServerCutText, LostText, rectangle, data_of, fault_outside, framebuffer_update, set_color_map_entries, server_message}
use Rattle.host_decoder.specs.Updates.{in_colours}
use Rattle.host_decoder.specs.Events.{Brings, brought_by, changes}
use Rattle.host_decoder.specs.Data.{DataProgress, DataStands, IsWanting}
use Rattle.host_decoder.specs.Parts.{Passed, len_of, message_of}
use Rattle.host_decoder.specs.declared.event.HostEvent.{HostEvent}
use Rattle.host_decoder.specs.declared.part.HostPart.{HostPart}
use Rattle.host_decoder.specs.declared.part.HostPart.TheVariants.{Kind, Count, Area, Encoding, Outside, Colours, Length}
use Rattle.host_decoder.specs.declared.state.HostState.{HostState}
use Rattle.host_decoder.specs.declared.state.HostState.TheVariants.{Fields, Pixels, Keeping, Passing, Whole, Failed}

-- What contracts see of a decoder: the size of the screen in pixels, and its state.
pub record Decoding : Type 0 where
  pub width : ℕ
  pub height : ℕ
  pub state : HostState

-- The messages of a host over a screen of w by h.
abbrev pub host_message : ℕ → ℕ → Reading ServerMessage
host_message w h = server_message host_format w h

-- ---- the rest of an update, after the paints so far

-- The rest of an update of which this many rectangles are left.
abbrev pub rectangles : ℕ → ℕ → List Paint → ℕ → Reading ServerMessage
rectangles w h sofar left = times left (rectangle host_format w h) >>= λ others. Done (FramebufferUpdate (sofar ++ others))

-- The rest after a rectangle that was just read.
abbrev pub behind : ℕ → ℕ → List Paint → ℕ → Paint → Reading ServerMessage
behind w h sofar left paint = rectangles w h (sofar ++ paint ∷ []) left

-- The rest where a rectangle is still being read.
abbrev pub with_others : ℕ → ℕ → List Paint → ℕ → Reading Paint → Reading ServerMessage
with_others w h sofar left reading = reading >>= behind w h sofar left

-- What is read from the beginning of a part on.
abbrev pub form_of : ℕ → ℕ → List Paint → HostPart → Reading ServerMessage
form_of w h sofar Kind = host_message w h
form_of w h sofar Count = framebuffer_update host_format w h
form_of w h sofar (Area left) = with_others w h sofar left (rectangle host_format w h)
form_of w h sofar (Encoding left area) = with_others w h sofar left (u32 >>= data_of host_format w h area)
form_of w h sofar Outside = u32 >>= λ encoding. Faulty (fault_outside encoding)
form_of w h sofar Colours = set_color_map_entries
form_of w h sofar Length = text ServerCutText LostText

-- There are paints only inside an update.
abbrev pub IsSuited : HostPart → List Paint → Type 0
IsSuited Kind paints = paints ≡ []
IsSuited Count paints = paints ≡ []
IsSuited (Area left) paints = Unit {0}
IsSuited (Encoding left area) paints = Unit {0}
IsSuited Outside paints = Unit {0}
IsSuited Colours paints = paints ≡ []
IsSuited Length paints = paints ≡ []

-- The rest of a text that is kept, of which these bytes have come and this many are left.
abbrev pub keeping : List ℕ → ℕ → Reading ServerMessage
keeping = kept_text ServerCutText

-- The rest of what is read past.
abbrev pub passing : ℕ → Passed → Reading ServerMessage
passing left what = padding left (Done (message_of what))

-- ---- the state of a decoder and of its painter, over the screen at the start of the message

-- The painter shows the paints of the message so far, in colours.
abbrev pub Holds : Canvas → Painting → List Paint → Type 0
Holds start painter sofar = IsPaintedOver start (map in_colours sofar) painter

-- Some bytes of a part have come, and one is missing.
pub record InPart (w h : ℕ) (part : HostPart) (begun : List ℕ) (start : Canvas) (painter : Painting) (r : Reading ServerMessage) : Type 0 where
  pub sofar : List Paint
  pub holds : Holds start painter sofar
  pub suited : IsSuited part sofar
  pub missing : length begun < len_of part
  pub reads : r ≡ after (form_of w h sofar part) begun

-- A rectangle's data are being read, and are painted over the paints before them as they come. After this rectangle
-- `left` more follow.
pub record InData (w h left : ℕ) (reader : DataProgress) (start : Canvas) (painter : Painting) (r : Reading ServerMessage) : Type 0 where
  pub sofar : List Paint
  pub reading : Reading Paint
  pub stands : DataStands reader start (map in_colours sofar) painter reading
  pub wants : wants_more reading ≡ true
  pub reads : r ≡ with_others w h sofar left reading

-- The event of a whole message waits, and the painter shows the screen after it.
pub record AtEnd (w h : ℕ) (event : HostEvent) (start : Canvas) (painter : Painting) (r : Reading ServerMessage) : Type 0 where
  pub message : ServerMessage
  pub reads : r ≡ Done message
  pub brings : Brings w h start event message
  pub shows : Holds (after_updates start (changes w h message)) painter []

-- The state, with its painter, stands at `r` in a message that began over the screen `start`. Where memory was refused
-- it stands at no place of a message, since no message has that fault.
abbrev pub Stands : ℕ → ℕ → HostState → Canvas → Painting → Reading ServerMessage → Type 0
Stands w h (Fields fields) start painter r = InPart w h fields.0 fields.1 start painter r
Stands w h (Pixels left reader) start painter r = InData w h left reader start painter r
Stands w h (Keeping kept) start painter r = Holds start painter [] × (0 < kept.1) × (r ≡ keeping kept.0 kept.1)
Stands w h (Passing what left) start painter r = Holds start painter [] × (0 < left) × (r ≡ passing left what)
Stands w h (Whole event) start painter r = AtEnd w h event start painter r
Stands w h (Failed fault) start painter r = r ≡ Faulty fault

-- For a state outside an update: with every painter that has painted nothing over the screen, it stands at `r` in a
-- message.
abbrev pub StandsUnpainted : ℕ → ℕ → HostState → Reading ServerMessage → Type 0
StandsUnpainted w h state r = (start : Canvas) (painter : Painting) → Holds start painter [] → Stands w h state start painter r

-- A decoder and its painter stand at `r` in a message of the host. When the message began, the screen was `start`,
-- which is what all whole messages before had made of it. Before the message's first byte, and once the message is
-- whole, the painter shows the screen as it is then. Inside an update, or at a fault, it may show a part of the
-- message.
abbrev pub Decodes : Decoding → Painting → Canvas → Reading ServerMessage → Type 0
Decodes decoder painter start r = Stands decoder.width decoder.height decoder.state start painter r

-- No byte of a message has come.
abbrev pub start : HostState
start = Fields (Kind, [])

-- Another byte would be taken: no message is whole, and nothing failed.
abbrev pub is_open : HostState → Bool
is_open (Fields fields) = true
is_open (Pixels left reader) = true
is_open (Keeping kept) = true
is_open (Passing what left) = true
is_open (Whole event) = false
is_open (Failed fault) = false

-- Memory was refused: this is final.
abbrev pub is_refused : HostState → Bool
is_refused (Failed Memory) = true
is_refused _ = false

-- The update, if any, of the message that waits.
abbrev pub waiting : HostState → List Update
waiting (Whole event) = brought_by event
waiting _ = []

-- What is answered: how many bytes were used, or what failed.
abbrev pub answered : HostState → ℕ → Result ℕ Fault
answered (Failed fault) used = Err fault
answered _ used = Ok used

-- ---- what a decoder does

-- The decoder and the painter are for screens of one size.
pub record IsFor (decoder : Decoding) (painter : Painting) : Type 0 where
  pub width : painter.width ≡ decoder.width
  pub height : painter.height ≡ decoder.height

-- A decoder that stood at `r` was fed a piece. Where memory is refused, nothing is said of the message from then on.
abbrev pub Feeds : Decoding → Painting → Canvas → Reading ServerMessage → List ℕ → Result ℕ Fault → Type 0
Feeds decoder painter start r piece (Ok used) = Decodes decoder painter start (after r piece) × (used ≡ taken r piece) × (fault_of (after r piece) ≡ None)
Feeds decoder painter start r piece (Err fault) =
    ((fault ≡ Memory) × (is_refused decoder.state ≡ true)) ⊎ ((after r piece ≡ Faulty fault) × Decodes decoder painter start (after r piece))

-- ---- a step of it

-- Where a rectangle's encoding is read next, the rectangle lies on the screen.
abbrev pub SuitsPart : ℕ → ℕ → HostPart → Type 0
SuitsPart w h Kind = Unit {0}
SuitsPart w h Count = Unit {0}
SuitsPart w h (Area left) = Unit {0}
SuitsPart w h (Encoding left area) = IsWithin area w h
SuitsPart w h Outside = Unit {0}
SuitsPart w h Colours = Unit {0}
SuitsPart w h Length = Unit {0}

-- The part suits the screen; and a rectangle's data, where they are read, are read for this screen and want another
-- byte.
abbrev pub Suits : ℕ → ℕ → HostState → Type 0
Suits w h (Fields fields) = SuitsPart w h fields.0
Suits w h (Pixels left reader) = (reader.width ≡ w) × (reader.height ≡ h) × IsWanting reader
Suits w h (Keeping kept) = Unit {0}
Suits w h (Passing what left) = Unit {0}
Suits w h (Whole event) = Unit {0}
Suits w h (Failed fault) = Unit {0}

-- The state of a decoder for a screen of w by h.
pub record IsDecoding (w h : ℕ) (state : HostState) : Type 0 where
  pub size : IsScreenSize w h
  pub suits : Suits w h state

-- The size of the painter's screen stays, and the decoder's state suits it.
pub record Stays (old new : Painting) (state : HostState) : Type 0 where
  pub width : new.width ≡ old.width
  pub height : new.height ≡ old.height
  pub suits : Suits old.width old.height state

-- The message goes on as r, or memory was refused.
abbrev pub GoesOn : Painting → Painting → HostState → Canvas → Reading ServerMessage → Type 0
GoesOn old new state start r = (is_refused state ≡ true) ⊎ Stands old.width old.height state start new r

-- Reading these bytes from `r` on is the same as reading all but the first n of them from `next` on.
pub record IsBehind (r next : Reading ServerMessage) (bytes : List ℕ) (n : ℕ) : Type 0 where
  pub says : after r bytes ≡ after next (drop n bytes)
  pub count : fault_of next ≡ None → taken r bytes ≡ n + taken next (drop n bytes)

-- The first n bytes were used, and after them reading goes on at `next`.
pub record Uses (old new : Painting) (state : HostState) (start : Canvas) (r : Reading ServerMessage) (bytes : List ℕ) (n : ℕ) : Type 0 where
  pub next : Reading ServerMessage
  pub behind_ : IsBehind r next bytes n
  pub goes_on : GoesOn old new state start next

-- What a session keeps, and which viewers it stands for.
use Rattle.std.specs.Prelude.{◌≡◌, ℕ, ◌+◌, ◌≤◌, Bool, true, false, max, ◌&&◌, ◌||◌, ◌==◌, ◌<◌, ◌⊎◌, ◌++◌, nat_le, nat_lt, if◌then◌else◌, is_some, is_none, unwrap_or, List, [], ◌∷◌, length, drop, take, Option, Some, None, Ok}
use Rattle.fault.specs.declared.kinds.Fault.{Fault}
use Rattle.pixel_format.specs.PixelFormat.{PixelFormat}
use Rattle.byte_reading.specs.Reading.{Reading, Done, whole_of, fault_of, wants_more, Gives, GivesWhole}
use Rattle.raster.specs.declared.rect.Rect.{Rect}
use Rattle.raster.specs.declared.size.Size.{Size}
use Rattle.raster.specs.Size.{IsScreenSize}
use Rattle.raster.specs.Update.{Update, bells}
use Rattle.rfb_wire.specs.declared.client_reader.ClientReader.{ClientReader}
use Rattle.rfb_wire.specs.ClientReader.{ahead}
use Rattle.rfb_wire.specs.ClientMessage.{ClientMessage, CutText, LostText, Choice, client_message, longest_text}
use Rattle.rfb_wire.specs.Greeting as handshake
use Rattle.rfb_wire.specs.Greeting.{Greeting}
use Rattle.rfb_wire.specs.Handshake.{said_to_viewer}
use Rattle.rfb_wire.specs.Message.{IsOrLoses, FeedsOrLoses, viewer_form}
use Rattle.roles.specs.Allowed.{Input, allowed, releases}
use Rattle.roles.specs.Held.{Kept, HeldStands, input_for, left_in}
use Rattle.roles.specs.declared.role.Role.{Role}
use Rattle.tiles.specs.Have.{SentTiles, HaveStands}
use Rattle.tiles.specs.Touched.{told_last}
use Rattle.reflect_core.specs.Asked.{Wanted, AskedStands}
use Rattle.reflect_core.specs.declared.cut.Cut.{Cut}
use Rattle.update_encoder.specs.Style.{Style}
use Rattle.viewer_session.specs.declared.form.AnswerForm.{AnswerForm}
use Rattle.viewer_session.specs.Outgoing.{Sending}
use Rattle.viewer_session.specs.Record.{Entry, Took, Saw, events, format_of, choice_of, messages_in}
use Rattle.zrle_answer.specs.Written.{has_begun}
use Rattle.viewer_session.specs.Chosen.{MayBeChosen}
use Rattle.viewer_session.specs.Turn.{Chosen, clipped_to, size_for}
use Rattle.viewer_session.specs.Viewer as viewer
use Rattle.viewer_session.specs.Viewer.{Setup, Viewer, out_bytes, new_viewer, with_input, after_bytes, after_cut_as}

-- The size of the screen, how the viewer is answered, the size of the host's screen at first where the viewer is told
-- of sizes, its role, its hello where it has one, what has come of its next message, the pixel format and the choice of
-- encodings that hold, the size that it was told after its hello, what it has asked for, what it has of each tile, the
-- last cut, the piece that is sent next, all unsent bytes for it, what it holds down, its input that waits, and whether
-- its zlib stream has begun.
pub record State : Type 0 where
  pub width : ℕ
  pub height : ℕ
  pub form : AnswerForm
  pub host : Option Size
  pub role : Role
  pub greeting : Option Greeting
  pub reader : ClientReader
  pub format : PixelFormat
  pub choice : Choice
  pub told : Option Size
  pub asked : Wanted
  pub have : SentTiles
  pub cut : Cut
  pub piece : List ℕ
  pub unsent : List ℕ
  pub held : Kept
  pub waiting : Option Input
  pub begun : Bool

-- How the hello goes on. A session that begins after it has none, and takes it as done.
abbrev pub hello_of : Option Greeting → Reading (Unit {0})
hello_of None = Done tt
hello_of (Some greeting) = handshake.ahead greeting

-- While more of the hello is to come: all that is to be said by now was put out, and nothing else.
pub record IsSaid (greeting : Greeting) (out : Sending) : Type 0 where
  pub said : greeting.sent ≡ length (said_to_viewer greeting.w greeting.h greeting.name (length greeting.begun))
  pub filled : out.filled ≤ greeting.sent
  pub alone : out.unsent ≡ out.piece

-- The name in the hello is short, and what is to be said was put out as the hello went on.
pub record IsSpoken (greeting : Greeting) (out : Sending) : Type 0 where
  pub short : length greeting.name ≤ 255
  pub said : wants_more (handshake.ahead greeting) ≡ true → IsSaid greeting out

-- Where there is a hello, it is spoken.
abbrev pub IsGreeting : Option Greeting → Sending → Type 0
IsGreeting None out = Unit {0}
IsGreeting (Some greeting) out = IsSpoken greeting out

-- All parts of a session are of the screen's size. No whole message waits in its reader, and the reader has no fault
-- before the hello is done. What is to be said of the hello was put out as it went on.
pub record IsSound (w h : ℕ) (greeting : Option Greeting) (reader : ClientReader) (asked : Wanted) (have : SentTiles) (out : Sending) : Type 0 where
  pub size : IsScreenSize w h
  pub taken : whole_of (ahead reader) ≡ None
  pub fresh : is_some (whole_of (hello_of greeting)) ≡ false → fault_of (ahead reader) ≡ None
  pub asked_size : (asked.width ≡ w) × (asked.height ≡ h)
  pub have_size : (have.width ≡ w) × (have.height ≡ h)
  pub cut_size : (out.cut.width ≡ w) × (out.cut.height ≡ h)
  pub greets : IsGreeting greeting out

-- The fault of the hello, if there is one.
abbrev pub hello_fault : State → Option Fault
hello_fault st = fault_of (hello_of st.greeting)

-- The fault of all of the viewer's bytes.
abbrev pub fault_in : State → Option Fault
fault_in st = if is_some (hello_fault st) then hello_fault st else fault_of (ahead st.reader)

-- The hello is done.
abbrev pub is_greeted : State → Bool
is_greeted st = is_some (whole_of (hello_of st.greeting))

-- The session may look: all bytes were sent, the hello is done, and there is no fault.
abbrev pub is_ready : State → Bool
is_ready st = (length st.unsent == 0) && (is_greeted st && is_none (fault_in st))

-- How the session's next answer is written.
abbrev pub style_now : State → Style
style_now st = record { runs = st.form.runs; format = st.format; choice = st.choice }

-- The size that the viewer was told last.
abbrev pub told_now : State → Size
told_now st = unwrap_or st.told (record { width = st.width; height = st.height })

-- The pending area, as far as it lies in that size.
abbrev pub asked_now : State → Option Rect
asked_now st = clipped_to (told_now st) st.asked.area

-- The number of the viewer's last answer, where copies of the host may be passed on to it.
abbrev pub since_now : State → Option ℕ
since_now st = if st.form.copies && st.choice.copy then st.asked.answered else None

-- The size that the viewer is told at this cut, if it is told one.
abbrev pub size_now : State → Option Size
size_now st = size_for st.width st.height st.host st.choice.resizes (told_now st) st.cut.host_size st.asked.area

-- A viewer of which no byte is unread.
abbrev pub at_rest : Viewer → Viewer
at_rest p = record p { unread = []; lost = [] }

-- The hello of the session is the viewer's: its screen and name, and how it goes on. While more of it is to come, the
-- session took as many bytes of it as the viewer says, and no answer is begun.
pub record GreetsAs (s : Setup) (greeting : Greeting) (greet : Bool) (hello : Reading (Unit {0})) (said : ℕ) (said_after : List ℕ) : Type 0 where
  pub w : greeting.w ≡ s.w
  pub h : greeting.h ≡ s.h
  pub name : greeting.name ≡ s.name
  pub greets : greet ≡ true
  pub goes_on : hello ≡ handshake.ahead greeting
  pub taken : wants_more hello ≡ true → (said ≡ length greeting.begun) × (said_after ≡ [])

-- The hello of the session is the viewer's, or neither has one.
abbrev pub Greets : Setup → Option Greeting → Bool → Reading (Unit {0}) → ℕ → List ℕ → Type 0
Greets s None greet hello said said_after = (greet ≡ false) × (hello ≡ Done tt)
Greets s (Some greeting) greet hello said said_after = GreetsAs s greeting greet hello said said_after

-- What the state says of a record: the latest entry stands first.
pub record Keeps (w h : ℕ) (st : State) (entries : List Entry) : Type 0 where
  pub asked : AskedStands st.asked (events w h entries)
  pub have : HaveStands st.have (events w h entries)
  pub format : st.format ≡ format_of entries
  pub choice : st.choice ≡ choice_of entries
  pub told : st.told ≡ told_last (events w h entries)

-- A text that is kept has at most the longest length, and one that is skipped for its length is longer (7.5.6; the
-- bound is this project's own).
abbrev pub HasKeptShort : ClientMessage → Type 0
HasKeptShort (CutText text) = length text ≤ longest_text
HasKeptShort (LostText len) = longest_text < len
HasKeptShort message = Unit {0}

-- The state stands for a viewer in all but its input.
pub record Serves (s : Setup) (st : State) (p : Viewer) : Type 0 where
  pub width : st.width ≡ s.w
  pub height : st.height ≡ s.h
  pub form : st.form ≡ s.form
  pub host : st.host ≡ s.host
  pub role : p.role ≡ st.role
  pub rests : p ≡ at_rest p
  pub greets : Greets s st.greeting p.greet p.hello p.said p.said_after
  -- a reader that was refused memory reads a text as one that is lost; no whole message waits
  pub reading : IsOrLoses (ahead st.reader) p.reading
  pub taken : whole_of p.reading ≡ None
  pub short : Gives HasKeptShort p.reading
  pub keeps : Keeps s.w s.h st p.entries
  pub written : p.written ≤ length (out_bytes s p)
  pub unsent : st.unsent ≡ drop p.written (out_bytes s p)
  pub begun : st.begun ≡ has_begun p.stream

-- The input that waits is the viewer's, and what is held down stands for the messages taken.
pub record Relays (st : State) (p : Viewer) : Type 0 where
  pub waiting : p.waiting ≡ st.waiting
  pub keys : p.keys ≡ st.held.keys
  pub held : HeldStands st.role st.held (messages_in p.entries)

-- The state stands for a viewer of which no byte is unread.
pub record Stands (s : Setup) (st : State) (p : Viewer) : Type 0 where
  pub serves : Serves s st p
  pub relays : Relays st p

-- ---- what the calls do

-- Before any byte of a viewer has come: what is to be said by then waits to be sent, and nothing else does.
pub record IsBegun (s : Setup) (role : Role) (greet : Bool) (greeting : Option Greeting) (out : Sending) : Type 0 where
  pub greets : Greets s greeting greet (new_viewer role greet).hello 0 []
  pub unsent : out.unsent ≡ out_bytes s (new_viewer role greet)

-- The size of the screen and the role are the same before and now.
pub record IsSameViewer (before now : State) : Type 0 where
  pub width : now.width ≡ before.width
  pub height : now.height ≡ before.height
  pub role : now.role ≡ before.role

-- The size of the screen, the role, the last cut and its number are the same before and now.
pub record IsSameSession (before now : State) : Type 0 where
  pub width : now.width ≡ before.width
  pub height : now.height ≡ before.height
  pub role : now.role ≡ before.role
  pub cut : now.cut ≡ before.cut
  pub last : now.asked.last ≡ before.asked.last

-- Some bytes of the piece are left. The state stands for a viewer that has still to take them, with these marks for the
-- texts among them.
pub record HasFed (s : Setup) (p : Viewer) (now : State) (marks : List Bool) (piece left : List ℕ) : Type 0 where
  pub viewer : Viewer
  pub stands : Stands s now viewer
  pub rest : after_bytes p piece ≡ after_bytes (record viewer { lost = marks }) left

-- If the old state stood for a viewer, the new one stands, after these bytes, for one that has still to take those that
-- are left. The marks say of each text that became whole whether it found no memory.
abbrev pub IsFeeding : State → State → List Bool → List ℕ → List ℕ → Type 0
IsFeeding old now marks piece left = (s : Setup) (p : Viewer) (more : List Bool) → Stands s old p → HasFed s (record p { lost = marks ++ more }) now more piece left

-- A viewer whose last step was no look, with these marks for its texts.
abbrev pub with_marks : List Bool → Viewer → Viewer
with_marks marks p = record p { looked = None; lost = marks }

-- The state stands for this viewer, but for the bytes that the viewer left unread since an input waits.
pub record StandsBut (s : Setup) (st : State) (p : Viewer) (left : List ℕ) : Type 0 where
  pub stands : Stands s st (at_rest p)
  pub unread : p.unread ≡ left
  pub marks : p.lost ≡ []

-- If the old state stood for a viewer, the new one stands for it after these bytes, as far as no input waited. The
-- bytes after that are left unread.
abbrev pub FeedsTo : State → State → List Bool → List ℕ → List ℕ → Type 0
FeedsTo old new marks piece left = (s : Setup) (p : Viewer) → Stands s old p → StandsBut s new (after_bytes (with_marks marks p) piece) left

-- This many bytes of the piece were used: all of them without a fault, or those up to an input, which waits.
pub record FeedsUpTo (old new : State) (piece : List ℕ) (used : ℕ) : Type 0 where
  pub within : used ≤ length piece
  pub all : ((used ≡ length piece) × (fault_in new ≡ None)) ⊎ (is_some new.waiting ≡ true)
  pub marks : List Bool
  pub feeds : FeedsTo old new marks piece (drop used piece)

-- There is a fault, in this piece or before; after it no byte is looked at.
pub record FeedsToFault (old new : State) (piece : List ℕ) (fault : Fault) : Type 0 where
  pub stands_at : fault_in new ≡ Some fault
  pub marks : List Bool
  pub feeds : FeedsTo old new marks piece []

-- This many bytes of the hello were used, at least one where there is one. The hello has no fault.
pub record ReadsHello (old new : State) (piece : List ℕ) (used : ℕ) : Type 0 where
  pub fed : IsFeeding old new [] piece (drop used piece)
  pub within : used ≤ length piece
  pub some : 0 < length piece → 0 < used
  pub fine : hello_fault new ≡ None

-- The reader went on by these bytes. Then the whole message in it was taken, if there was one.
pub record ReadsOne (old new : State) (piece : List ℕ) (used : ℕ) (message : Option ClientMessage) : Type 0 where
  pub begun : Reading ClientMessage
  pub feeds : FeedsOrLoses (ahead old.reader) begun piece (Ok used)
  pub gives : GivesWhole viewer_form begun (ahead new.reader) message

-- A viewer once a message was noted in its record.
abbrev pub after_noting : ClientMessage → Viewer → Viewer
after_noting message p = record p { entries = Took message ∷ p.entries }

-- The same, once the message's input waits as well, where it passes.
abbrev pub after_taking : ClientMessage → Viewer → Viewer
after_taking message p = with_input (after_noting message p) (input_for p.role message)

-- The mark of a text that became whole, as a list.
abbrev pub marks_in : Option Bool → List Bool
marks_in None = []
marks_in (Some lost) = lost ∷ []

-- The mark of a message's text, where that has at most the longest length: whether it is lost.
abbrev pub text_mark : ClientMessage → Option Bool
text_mark (CutText text) = Some false
text_mark (LostText len) = if nat_le len longest_text then Some true else None
text_mark message = None

-- A viewer once its input that waits was taken.
abbrev pub without_input : Viewer → Viewer
without_input p = record p { waiting = None }

-- What is still to be released is what the definitions add to the input that passed where the viewer leaves.
abbrev pub HasReleases : State → Type 0
HasReleases st = (s : Setup) (p : Viewer) → Stands s st p → left_in st.held ≡ releases (allowed p.role (messages_in p.entries) false)

-- A viewer once a look was taken, with this reply.
abbrev pub after_look : ℕ → Viewer → Viewer
after_look number p = record p { looked = Some number; entries = Saw number ∷ p.entries }

-- A viewer whose last step was no look.
abbrev pub without_look : Viewer → Viewer
without_look p = record p { looked = None }

-- A viewer that stands between two messages: its hello is done and it is at no fault, since it is at the beginning of a
-- message.
pub record IsBetween (p : Viewer) : Type 0 where
  pub greeted : viewer.is_greeted p ≡ true
  pub begins : p.reading ≡ client_message

-- A viewer once this many more bytes were written.
abbrev pub after_writing : ℕ → Viewer → Viewer
after_writing n p = record p { written = p.written + n }

-- There is reason to cut after a look that replied this number.
abbrev pub wants_cut : Wanted → ℕ → Bool
wants_cut wanted looked = nat_lt (unwrap_or wanted.last 0) looked || (is_some wanted.area && wanted.asked)

-- The Bells at the last cut, if there was one, are those of the first of these updates.
abbrev pub HasCounted : State → List Update → Type 0
HasCounted st us = (number : ℕ) → st.asked.last ≡ Some number → (number ≤ length us) × (st.cut.bells ≡ bells (take number us))

-- The state stands for what a cut of these updates makes of a viewer, with an answer whose bytes may be chosen so.
pub record IsCut (s : Setup) (st : State) (us : List Update) (p : Viewer) : Type 0 where
  pub chosen : Option Chosen
  pub may_be : MayBeChosen s us p.entries p.stream chosen
  pub stands : Stands s st (after_cut_as s us chosen p)

-- The source was cut once, at this number (cuts): at least least, at most most, and at most as many as the updates that
-- the source knows. The new state stands for what the cut makes of each viewer for which the old one stood, where the
-- cut before it was one of this source.
pub record CutsAt {S : Type 0} (cuts : S → ℕ → S → Type 0) (before after : S) (old new : State) (us : List Update) (least most : ℕ) : Type 0 where
  pub number : ℕ
  pub cut : cuts before number after
  pub known : number ≤ length us
  pub fresh : least ≤ number
  pub bounded : number ≤ most
  pub counted : HasCounted new us
  pub stands : (s : Setup) (p : Viewer) → HasCounted old us → Stands s old p → IsCut s new (take number us) p

-- The source was looked at once, with a reply that is the source's own (looks) and at most the number of its updates.
-- Where there was reason it was then cut once, at a number that is at least the reply; otherwise it was left alone.
-- Reply and number are at most most.
pub record Turns {S : Type 0} (looks cuts : S → ℕ → S → Type 0) (before after : S) (old new : State) (us : List Update) (least most : ℕ) : Type 0 where
  pub looked : ℕ
  pub behind : S
  pub replied : looks before looked behind
  pub seen : looked ≤ length us
  pub rises : least ≤ most
  pub bounded : looked ≤ most
  pub idle : wants_cut old.asked looked ≡ false → (new ≡ old) × (after ≡ behind)
  pub cut : wants_cut old.asked looked ≡ true → CutsAt cuts behind after old new us (max least looked) most

-- The source was looked at once, with a reply of its own (looks), and its cut was refused.
abbrev pub HasOnlyLooked : {S : Type 0} → (looks : S → ℕ → S → Type 0) → (before after : S) → Type 0
HasOnlyLooked {S} looks before after = (looked : ℕ) × looks before looked after

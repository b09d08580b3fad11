-- A viewer as a session keeps it: its hello, the messages in its bytes, and what it is sent (RFC 6143, 7.1 to 7.6).
use Rattle.std.specs.Prelude.{ℕ, ◌+◌, Bool, ◌&&◌, nat_le, if◌then◌else◌, is_some, is_none, List, [], ◌∷◌, ◌++◌, length, Option, Some, None}
use Rattle.fault.specs.declared.kinds.Fault.{Fault}
use Rattle.byte_reading.specs.Reading.{Reading, Done, Faulty, Want, step, fault_of, whole_of, wants_more}
use Rattle.raster.specs.declared.size.Size.{Size}
use Rattle.raster.specs.Update.{Update}
use Rattle.rfb_wire.specs.ClientMessage.{ClientMessage, CutText, client_message, without_text}
use Rattle.rfb_wire.specs.Handshake.{viewer_hello, said_to_viewer}
use Rattle.roles.specs.declared.role.Role.{Role}
use Rattle.roles.specs.Allowed.{Input, passes, keys_after}
use Rattle.roles.specs.Held.{input_for}
use Rattle.viewer_session.specs.declared.form.AnswerForm.{AnswerForm}
use Rattle.viewer_session.specs.Record.{Entry, Took}
use Rattle.zrle_answer.specs.Rectangle.{ZlibStream}
use Rattle.viewer_session.specs.Turn.{Chosen, sent_as, stream_after, record_after_cut_as}

-- A screen of w by h with a name, room for this many inputs in the queue to the host, how viewers are answered, and,
-- where they are told of the sizes of the host's screen, the size that this has at first.
pub record Setup : Type 0 where
  pub w : ℕ
  pub h : ℕ
  pub name : List ℕ
  pub room : ℕ
  pub form : AnswerForm
  pub host : Option Size

-- One viewer, from the moment at which it joins.
pub record Viewer : Type 0 where
  pub role : Role
  pub greet : Bool  -- its bytes begin with a hello
  pub hello : Reading (Unit {0})  -- how its hello goes on
  pub said : ℕ  -- how many bytes of the hello were taken
  pub reading : Reading ClientMessage  -- how its next message goes on
  pub unread : List ℕ  -- bytes that came while an input waited
  pub lost : List Bool  -- marks for the texts among them
  pub keys : List ℕ  -- its keys that are down
  pub waiting : Option Input  -- an input that waits for room
  pub entries : List Entry  -- what its session did, the latest first
  pub looked : Option ℕ  -- the reply to its last step, where that was a look
  pub said_after : List ℕ  -- what it is sent after its hello
  pub written : ℕ  -- how many bytes of hello and answers were written
  pub stream : ZlibStream  -- the state of its zlib stream after all answers

-- ---- what a viewer's bytes make of it

-- The fault of its bytes, in the hello or after it.
abbrev pub viewer_fault : Viewer → Option Fault
viewer_fault p = if is_some (fault_of p.hello) then fault_of p.hello else fault_of p.reading

-- Its hello is done.
abbrev pub is_greeted : Viewer → Bool
is_greeted p = is_some (whole_of p.hello)

-- All bytes of its hello and answers.
abbrev pub out_bytes : Setup → Viewer → List ℕ
out_bytes s p = (if p.greet then said_to_viewer s.w s.h s.name p.said else []) ++ p.said_after

-- An input that passes waits until it is in the queue.
abbrev pub with_input : Viewer → Option Input → Viewer
with_input p None = p
with_input p (Some input) =
    if passes p.keys input
    then record p { keys = keys_after p.keys input; waiting = Some input }
    else p

-- A whole message, and the marks that are left after it. Its text is lost for want of memory where the first mark says
-- so.
abbrev pub marked : List Bool → ClientMessage → ClientMessage × List Bool
marked [] (CutText text) = (CutText text, [])
marked (lost ∷ marks) (CutText text) = ((if lost then without_text (CutText text) else CutText text), marks)
marked marks message = (message, marks)

-- A message goes into the record, its input waits where that passes, and the next message begins.
abbrev pub with_message : Viewer → ClientMessage × List Bool → Viewer
with_message p taken =
    with_input (record p { entries = Took taken.0 ∷ p.entries; lost = taken.1; reading = client_message }) (input_for p.role taken.0)

-- How far a message is read: it is whole, it is at a fault, or it goes on.
abbrev pub after_reading : Viewer → Reading ClientMessage → Viewer
after_reading p (Done message) = with_message p (marked p.lost message)
after_reading p (Faulty fault) = record p { reading = Faulty fault }
after_reading p (Want more) = record p { reading = Want more }

-- A byte of the hello was read. A byte that shows a fault isn't answered.
abbrev pub after_hello : Viewer → Reading (Unit {0}) → Viewer
after_hello p hello = record p { hello = hello; said = if is_some (fault_of hello) then p.said else p.said + 1 }

-- One byte: of the hello, or of the messages after it.
abbrev pub after_byte : Viewer → ℕ → Viewer
after_byte p b =
    if wants_more p.hello then after_hello p (step p.hello b)
    else (if is_some (viewer_fault p) then p else after_reading p (step p.reading b))

-- Bytes are taken, up to one whose message leaves an input waiting. The rest stays unread.
abbrev pub after_bytes : Viewer → List ℕ → Viewer
after_bytes p [] = record p { unread = [] }
after_bytes p (b ∷ bs) = if is_some p.waiting then record p { unread = b ∷ bs } else after_bytes (after_byte p b) bs

-- A viewer of this role that has sent nothing. A hello that isn't read is taken as done.
abbrev pub new_viewer : Role → Bool → Viewer
new_viewer role greet =
    record {
      role = role;
      greet = greet;
      hello = if greet then viewer_hello else Done tt;
      said = 0;
      reading = client_message;
      unread = [];
      lost = [];
      keys = [];
      waiting = None;
      entries = [];
      looked = None;
      said_after = [];
      written = 0;
      stream = None;
    }

-- ---- a turn

-- A viewer may look where all its bytes are written, its hello is done and it has no fault.
abbrev pub may_look : Setup → Viewer → Bool
may_look s p = nat_le (length (out_bytes s p)) p.written && (is_greeted p && is_none (viewer_fault p))

-- What a cut of these updates makes of a viewer: more to be sent, and more in its record. Where its session chose the
-- bytes of an answer, these are sent.
abbrev pub after_cut_as : Setup → List Update → Option Chosen → Viewer → Viewer
after_cut_as s us chosen p =
    record p {
      looked = None;
      said_after = p.said_after ++ sent_as chosen s.form s.w s.h s.host p.entries us;
      entries = record_after_cut_as chosen s.form s.w s.h s.host p.entries us;
      stream = stream_after chosen p.stream;
    }

-- The same, where its session chose none.
abbrev pub after_cut : Setup → List Update → Viewer → Viewer
after_cut s us p = after_cut_as s us None p

-- How the frames of a peer are read (RFC 6455, 5.2 to 5.5). Headers and masks are those of the kit's websocket.
use Rattle.std.specs.Prelude.{◌≡◌, ℕ, ◌+◌, ◌-◌, ◌%◌, Bool, false, cond, not, ◌||◌, ◌==◌, nat_lt, List, [], ◌∷◌, ◌++◌, length, slice_index, bit_xor, Option, None, Some, is_some, Ok, Err}
use Rattle.websocket.specs.FrameHeader.{Decoded, decode_header}
use Rattle.websocket.specs.declared.protocol.frame.header.FrameHeader.{FrameHeader}
use Rattle.websocket.specs.declared.protocol.frame.coding.OpCode.{OpCode}
use Rattle.websocket.specs.declared.protocol.frame.coding.OpCode.TheVariants as op
use Rattle.websocket.specs.declared.protocol.frame.coding.Control.{Control}
use Rattle.websocket.specs.declared.protocol.frame.coding.Control.TheVariants as control
use Rattle.websocket.specs.declared.protocol.frame.coding.Data.TheVariants as kind
use Rattle.websocket.specs.Connection.{whole_header}
use Rattle.web_frames.specs.declared.position.Position.{Position}
use Rattle.web_frames.specs.declared.position.Position.TheVariants.{Head, Payload, Ended, Broken}
use Rattle.web_frames.specs.declared.position.FrameKind.{FrameKind}
use Rattle.web_frames.specs.declared.position.FrameKind.TheVariants.{Data, Ping, Pong, Close}
use Rattle.web_frames.specs.declared.position.Breach.{Breach}
use Rattle.web_frames.specs.declared.position.Breach.TheVariants.{Protocol, Text}

-- Where reading stands.
pub record Standing : Type 0 where
  -- Whether frames must be masked, as a client's are; where this is false they must not be.
  pub masked : Bool
  pub position : Position
  -- What has come of a header.
  pub head : List ℕ
  -- A binary message is begun whose last frame is still to come.
  pub begun : Bool
  -- The key of the frame, and which byte of it is next.
  pub key : List ℕ
  pub turn : ℕ
  -- How many bytes of the payload are still to come.
  pub left : ℕ
  -- What has come of a ping, a pong or a close.
  pub control : List ℕ

-- Where reading stands before the first byte.
abbrev pub fresh : Bool → Standing
fresh masked = record { masked = masked; position = Head; head = []; begun = false; key = 0 ∷ 0 ∷ 0 ∷ 0 ∷ []; turn = 0; left = 0; control = [] }

-- Where reading stands once a frame was refused: nothing is read any more.
abbrev pub broken : Standing → Breach → Standing
broken s why = record s { position = Broken why }

-- It stands between two messages: no byte of a further frame has come.
abbrev pub IsBetween : Standing → Type 0
IsBetween s = (s.position ≡ Head) × (s.head ≡ []) × (s.begun ≡ false)

-- ---- the end of a frame

abbrev pub ended_at : Position → Standing → Standing
ended_at (Payload Data) s = record s { position = Head }
ended_at (Payload Ping) s = record s { position = Head; control = [] }
ended_at (Payload Pong) s = record s { position = Head }
ended_at (Payload Close) s = record s { position = Ended }
ended_at Head s = s
ended_at Ended s = s
ended_at (Broken why) s = s

-- A frame ends where no byte of its payload is missing.
abbrev pub at_end : Standing → Standing
at_end s = cond (s.left == 0) (ended_at s.position s) s

-- ---- a header

abbrev pub key_of : Option (List ℕ) → List ℕ
key_of None = 0 ∷ 0 ∷ 0 ∷ 0 ∷ []
key_of (Some key) = key

-- A payload of this kind and size follows the header. `begun` says whether a message is begun after it.
abbrev pub before_payload : Standing → FrameKind → Bool → FrameHeader → ℕ → Standing
before_payload s kind begun h size =
    at_end (record s { position = Payload kind; head = []; begun = begun; key = key_of h.mask; turn = 0; left = size; control = [] })

abbrev pub kind_of : Control → FrameKind
kind_of control.Close = Close
kind_of control.Ping = Ping
kind_of control.Pong = Pong

-- What follows a header, by its opcode. A control frame has to be whole and short (5.5), a message of several frames
-- has its kind in the first (5.4), and no text is taken.
abbrev pub by_opcode : Standing → OpCode → FrameHeader → ℕ → Standing
by_opcode s (op.Control what) h size =
    cond (not h.is_final || nat_lt 125 size) (broken s Protocol) (before_payload s (kind_of what) s.begun h size)
by_opcode s (op.Data kind.Continue) h size = cond s.begun (before_payload s Data (not h.is_final) h size) (broken s Protocol)
by_opcode s (op.Data kind.Binary) h size = cond s.begun (broken s Protocol) (before_payload s Data (not h.is_final) h size)
by_opcode s (op.Data kind.Text) h size = broken s Text

-- A header is refused unless a client masks and a server doesn't (5.1). It is also refused with a reserved bit, since
-- no extension is in use (5.2).
abbrev pub is_refused : Standing → FrameHeader → Bool
is_refused s h = h.rsv1 || h.rsv2 || h.rsv3 || cond s.masked (not (is_some h.mask)) (is_some h.mask)

abbrev pub after_head : Standing → Decoded (FrameHeader × ℕ) → Standing
after_head s (Err e) = broken s Protocol
after_head s (Ok None) = s
after_head s (Ok (Some p)) = cond (is_refused s p.0) (broken s Protocol) (by_opcode s p.0.opcode p.0 p.1)

-- ---- a byte

-- The byte of the payload that this one stands for (5.3).
abbrev pub unmasked : Standing → ℕ → ℕ
unmasked s b = bit_xor b (slice_index s.key s.turn)

abbrev pub further : Standing → Standing
further s = at_end (record s { turn = (s.turn + 1) % 4; left = s.left - 1 })

-- A header has at most 14 bytes, and the payload of a control frame at most 125.
abbrev pub byte_at : Position → Standing → ℕ → Standing
byte_at Head s b =
    cond (nat_lt (length s.head) 14) (after_head (record s { head = s.head ++ b ∷ [] }) (decode_header (s.head ++ b ∷ []))) (broken s Protocol)
byte_at (Payload Data) s b = further s
byte_at (Payload kind) s b =
    cond (nat_lt (length s.control) 125) (further (record s { control = s.control ++ unmasked s b ∷ [] })) (broken s Protocol)
byte_at Ended s b = s
byte_at (Broken why) s b = s

-- How reading stands after one more byte.
abbrev pub after_byte : Standing → ℕ → Standing
after_byte s b = byte_at s.position s b

-- The byte of a binary message that this byte brings, if it brings one.
abbrev pub brought_at : Position → Standing → ℕ → Option ℕ
brought_at (Payload Data) s b = Some (unmasked s b)
brought_at _ s b = None

abbrev pub brought : Standing → ℕ → Option ℕ
brought s b = brought_at s.position s b

abbrev pub put : Option ℕ → List ℕ → List ℕ
put None bytes = bytes
put (Some b) bytes = b ∷ bytes

-- ---- bytes

-- How reading stands after these bytes.
abbrev pub after_bytes : Standing → List ℕ → Standing
after_bytes s [] = s
after_bytes s (b ∷ bs) = after_bytes (after_byte s b) bs

-- The bytes of binary messages that they bring, in order, whatever messages they belong to.
abbrev pub data_in : Standing → List ℕ → List ℕ
data_in s [] = []
data_in s (b ∷ bs) = put (brought s b) (data_in (after_byte s b) bs)

-- ---- what a server says

-- The header of a whole binary message, which isn't masked (5.1).
abbrev pub binary_header : FrameHeader
binary_header = whole_header (op.Data kind.Binary) None

-- The header of a control frame.
abbrev pub control_header : Control → FrameHeader
control_header what = whole_header (op.Control what) None

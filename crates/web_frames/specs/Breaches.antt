-- What a client may not send, and that nothing after it is read (RFC 6455, 5.1 to 5.5).
use Rattle.std.specs.Prelude.{◌≡◌, ◌<◌, ◌≤◌, ◌⊎◌, ℕ, Bool, true, false, List, [], ◌∷◌, ◌++◌, length, All, ⊤, None, Some}
use Rattle.websocket.specs.declared.protocol.frame.header.FrameHeader.{FrameHeader}
use Rattle.websocket.specs.declared.protocol.frame.coding.OpCode.{OpCode}
use Rattle.websocket.specs.declared.protocol.frame.coding.OpCode.TheVariants as op
use Rattle.websocket.specs.declared.protocol.frame.coding.Control.TheVariants as control
use Rattle.websocket.specs.declared.protocol.frame.coding.Data.TheVariants as kind
use Rattle.websocket.specs.FrameHeader.{IsHeader, IsMask, encode_header}
use Rattle.websocket.specs.Frame.{encode_frame}
use Rattle.web_frames.specs.declared.position.Breach.{Breach}
use Rattle.web_frames.specs.declared.position.Position.TheVariants.{Broken, Ended}
use Rattle.web_frames.specs.Frames.{fresh, after_bytes, data_in}
use Rattle.web_frames.specs.Clients.{ClientFrame, masked_header, begun_after, frames_bytes, carried, IsSent}

-- Whether a message is begun after all these frames.
abbrev pub begun_after_all : Bool → List ClientFrame → Bool
begun_after_all begun [] = begun
begun_after_all begun (f ∷ fs) = begun_after_all (begun_after begun f) fs

-- A control frame is in pieces or too long (5.5), a part belongs to no message, a message begins inside another (5.4),
-- or the frame is of a text.
abbrev pub IsOutOfPlace : Bool → OpCode → FrameHeader → ℕ → Type 0
IsOutOfPlace begun (op.Control what) h size = (h.is_final ≡ false) ⊎ (125 < size)
IsOutOfPlace begun (op.Data kind.Continue) h size = begun ≡ false
IsOutOfPlace begun (op.Data kind.Binary) h size = begun ≡ true
IsOutOfPlace begun (op.Data kind.Text) h size = ⊤

-- A reserved bit is set (5.2).
abbrev pub HasReserved : FrameHeader → Type 0
HasReserved h = (h.rsv1 ≡ true) ⊎ (h.rsv2 ≡ true) ⊎ (h.rsv3 ≡ true)

-- A client may not send this header, where a message is begun or isn't: it has a reserved bit, has no mask (5.1), or is
-- out of place.
abbrev pub IsForbidden : Bool → FrameHeader → ℕ → Type 0
IsForbidden begun h size = HasReserved h ⊎ (h.mask ≡ None) ⊎ IsOutOfPlace begun h.opcode h size

-- Exactly these data are read of these bytes, and then a frame is refused.
pub record BreaksAfter (bytes read : List ℕ) : Type 0 where
  pub reads : data_in (fresh true) bytes ≡ read
  pub why : Breach
  pub broken : (after_bytes (fresh true) bytes).position ≡ Broken why

-- Whatever follows the header of a forbidden frame, what is read is what the frames before it carry.
abbrev pub NothingIsReadAfterABreach : Type 0
NothingIsReadAfterABreach =
    (fs : List ClientFrame) (h : FrameHeader) (size : ℕ) (others : List ℕ) → All IsSent fs → IsHeader h size → IsForbidden (begun_after_all false fs) h size
    → BreaksAfter (frames_bytes false fs ++ (encode_header h size ++ others)) (carried fs)

-- Exactly these data are read of these bytes, and then a close frame has come.
pub record EndsAfter (bytes read : List ℕ) : Type 0 where
  pub reads : data_in (fresh true) bytes ≡ read
  pub ended : (after_bytes (fresh true) bytes).position ≡ Ended

-- Whatever a close frame holds, and whatever follows it, what is read is what the frames before it carry.
abbrev pub NothingIsReadAfterAClose : Type 0
NothingIsReadAfterAClose =
    (fs : List ClientFrame) (key payload others : List ℕ) → All IsSent fs → IsMask (Some key) → length payload ≤ 125
    → EndsAfter (frames_bytes false fs ++ (encode_frame (masked_header true (op.Control control.Close) key) payload ++ others)) (carried fs)

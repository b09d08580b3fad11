-- The headers of a server, byte by byte.
use Rattle.std.proofs.Common.{◌≡◌, ℕ, ◌+◌, ◌<◌, ◌≤◌, List, [], ◌∷◌, ◌++◌, length, arith, ap, zero-add}
use Rattle.std.specs.Int.{w16, to_be_bytes}
use Rattle.websocket.specs.declared.protocol.frame.coding.Control.{Control}
use Rattle.websocket.specs.declared.protocol.frame.coding.Control.TheVariants as control
use Rattle.websocket.specs.declared.protocol.frame.coding.OpCode.TheVariants as op
use Rattle.websocket.specs.OpCode.{opcode_bits}
use Rattle.websocket.specs.FrameHeader.{encode_header}
use Rattle.websocket.specs.Frame.{encode_frame}
use Rattle.websocket.proofs.DecodeLemmas.{ltb_true, ltb_false}
use Rattle.web_frames.specs.Frames.{binary_header, control_header}

pub short_head : (n : ℕ) → n < 126 → encode_header binary_header n ≡ 130 ∷ n ∷ []
unfolding encode_header
short_head n lt = rw (ltb_true n 126 lt, zero-add n)

pub long_head : (n : ℕ) → 126 ≤ n → n < 65536 → encode_header binary_header n ≡ 130 ∷ 126 ∷ to_be_bytes w16 n
unfolding encode_header
long_head n ge lt = rw (ltb_false n 126 ge, ltb_true n 65536 lt)

pub control_head : (what : Control) (n : ℕ) → n ≤ 125 → encode_header (control_header what) n ≡ (128 + opcode_bits (op.Control what)) ∷ n ∷ []
unfolding encode_header
control_head control.Close n le = rw (ltb_true n 126 (omega arith), zero-add n)
control_head control.Ping n le = rw (ltb_true n 126 (omega arith), zero-add n)
control_head control.Pong n le = rw (ltb_true n 126 (omega arith), zero-add n)

pub control_is : (what : Control) (payload : List ℕ) → length payload ≤ 125 → encode_frame (control_header what) payload ≡ (128 + opcode_bits (op.Control what)) ∷ length payload ∷ payload
control_is what payload le = ap (λ head. head ++ payload) (control_head what (length payload) le)

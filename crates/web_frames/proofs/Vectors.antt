-- The definitions compute the examples of RFC 6455, section 5.7, and streams that break a rule. There the examples'
-- messages are texts; here the same bytes are tried as a text, and with the opcode of a binary message.
use Rattle.std.proofs.Common.{◌≡◌, ℕ, Bool, true, false, List, [], ◌∷◌, ◌++◌, refl}
use Rattle.std.specs.Prelude.{replicate}
use Rattle.websocket.specs.declared.protocol.frame.coding.Control.TheVariants as control
use Rattle.websocket.specs.FrameHeader.{encode_header, decode_header}
use Rattle.websocket.specs.Frame.{encode_frame}
use Rattle.websocket.specs.Mask.{mask_from}
use Rattle.web_frames.specs.declared.position.Position.{Position}
use Rattle.web_frames.specs.declared.position.Position.TheVariants.{Head, Ended, Broken}
use Rattle.web_frames.specs.declared.position.Breach.TheVariants.{Protocol, Text}
use Rattle.web_frames.specs.Frames.{fresh, after_bytes, data_in, binary_header, control_header}
use Rattle.web_frames.specs.Clients.{Part, Ping, Pong, frame_bytes}

abbrev hello : List ℕ
hello = 0x48 ∷ 0x65 ∷ 0x6c ∷ 0x6c ∷ 0x6f ∷ []

abbrev key : List ℕ
key = 0x37 ∷ 0xfa ∷ 0x21 ∷ 0x3d ∷ []

-- The second byte of a masked frame of five bytes, and what follows it.
abbrev masked_hello : List ℕ
masked_hello = 0x85 ∷ 0x37 ∷ 0xfa ∷ 0x21 ∷ 0x3d ∷ 0x7f ∷ 0x9f ∷ 0x4d ∷ 0x51 ∷ 0x58 ∷ []

abbrev position_after : Bool → List ℕ → Position
position_after masked bytes = (after_bytes (fresh masked) bytes).position

-- ---- the examples, read

pub masked_text : position_after true (0x81 ∷ masked_hello) ≡ Broken Text
unfolding decode_header
masked_text = refl

pub masked_text_brings_nothing : data_in (fresh true) (0x81 ∷ masked_hello) ≡ []
unfolding decode_header
masked_text_brings_nothing = refl

pub masked_binary : data_in (fresh true) (0x82 ∷ masked_hello) ≡ hello
unfolding decode_header
masked_binary = refl

pub unmasked_from_a_client : position_after true (0x82 ∷ 0x05 ∷ hello) ≡ Broken Protocol
unfolding decode_header
unmasked_from_a_client = refl

pub unmasked_from_a_server : data_in (fresh false) (0x82 ∷ 0x05 ∷ hello) ≡ hello
unfolding decode_header
unmasked_from_a_server = refl

pub masked_from_a_server : position_after false (0x82 ∷ masked_hello) ≡ Broken Protocol
unfolding decode_header
masked_from_a_server = refl

pub fragmented : data_in (fresh false) (0x02 ∷ 0x03 ∷ 0x48 ∷ 0x65 ∷ 0x6c ∷ 0x80 ∷ 0x02 ∷ 0x6c ∷ 0x6f ∷ []) ≡ hello
unfolding decode_header
fragmented = refl

pub ping : data_in (fresh false) (0x89 ∷ 0x05 ∷ hello) ≡ []
unfolding decode_header
ping = refl

pub masked_pong : data_in (fresh true) (0x8a ∷ masked_hello) ≡ []
unfolding decode_header
masked_pong = refl

pub behind_a_pong : position_after true (0x8a ∷ masked_hello) ≡ Head
unfolding decode_header
behind_a_pong = refl

pub of_256_bytes : data_in (fresh false) (0x82 ∷ 0x7e ∷ 0x01 ∷ 0x00 ∷ replicate 256 7) ≡ replicate 256 7
unfolding decode_header
of_256_bytes = refl

pub of_64_KiB : (after_bytes (fresh false) (0x82 ∷ 0x7f ∷ 0 ∷ 0 ∷ 0 ∷ 0 ∷ 0 ∷ 1 ∷ 0 ∷ 0 ∷ [])).left ≡ 65536
unfolding decode_header
of_64_KiB = refl

-- ---- the examples, spelled

pub spelled_part : frame_bytes false (Part true key hello) ≡ 0x82 ∷ masked_hello
unfolding encode_header mask_from
spelled_part = refl

pub spelled_further_part : frame_bytes true (Part true key hello) ≡ 0x80 ∷ masked_hello
unfolding encode_header mask_from
spelled_further_part = refl

pub spelled_ping : frame_bytes true (Ping key hello) ≡ 0x89 ∷ masked_hello
unfolding encode_header mask_from
spelled_ping = refl

pub spelled_pong : frame_bytes true (Pong key hello) ≡ 0x8a ∷ masked_hello
unfolding encode_header mask_from
spelled_pong = refl

pub spelled_ping_of_a_server : encode_frame (control_header control.Ping) hello ≡ 0x89 ∷ 0x05 ∷ hello
unfolding encode_header
spelled_ping_of_a_server = refl

pub spelled_head_of_256_bytes : encode_header binary_header 256 ≡ 0x82 ∷ 0x7e ∷ 0x01 ∷ 0x00 ∷ []
unfolding encode_header
spelled_head_of_256_bytes = refl

-- ---- what breaks a rule

abbrev no_bytes : List ℕ
no_bytes = 0x80 ∷ 0 ∷ 0 ∷ 0 ∷ 0 ∷ []

pub reserved_bit : position_after true (0xc2 ∷ no_bytes) ≡ Broken Protocol
unfolding decode_header
reserved_bit = refl

pub reserved_opcode : position_after true (0x83 ∷ no_bytes) ≡ Broken Protocol
unfolding decode_header
reserved_opcode = refl

pub part_of_no_message : position_after true (0x80 ∷ no_bytes) ≡ Broken Protocol
unfolding decode_header
part_of_no_message = refl

pub message_in_a_message : position_after true (0x02 ∷ no_bytes ++ 0x82 ∷ no_bytes) ≡ Broken Protocol
unfolding decode_header
message_in_a_message = refl

pub ping_in_pieces : position_after true (0x09 ∷ no_bytes) ≡ Broken Protocol
unfolding decode_header
ping_in_pieces = refl

pub ping_of_126_bytes : position_after true (0x89 ∷ 0xfe ∷ 0 ∷ 0x7e ∷ 0 ∷ 0 ∷ 0 ∷ 0 ∷ []) ≡ Broken Protocol
unfolding decode_header
ping_of_126_bytes = refl

-- A length that isn't in its shortest form, and one of 2 ^ 63 bytes.
pub length_of_5_in_two_bytes : position_after true (0x82 ∷ 0xfe ∷ 0 ∷ 5 ∷ 0 ∷ 0 ∷ 0 ∷ 0 ∷ []) ≡ Broken Protocol
unfolding decode_header
length_of_5_in_two_bytes = refl

pub length_of_2_63 : position_after true (0x82 ∷ 0xff ∷ 0x80 ∷ 0 ∷ 0 ∷ 0 ∷ 0 ∷ 0 ∷ 0 ∷ 0 ∷ []) ≡ Broken Protocol
unfolding decode_header
length_of_2_63 = refl

pub behind_a_close_frame : data_in (fresh true) (0x88 ∷ no_bytes ++ 0x82 ∷ masked_hello) ≡ []
unfolding decode_header
behind_a_close_frame = refl

pub ended : position_after true (0x88 ∷ no_bytes) ≡ Ended
unfolding decode_header
ended = refl

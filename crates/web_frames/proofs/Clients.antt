-- The frames of a client are read as what they carry.
use Rattle.std.proofs.Common.{◌≡◌, ℕ, zero, suc, ◌+◌, ◌-◌, ◌%◌, ◌^◌, ◌<◌, ◌≤◌, Bool, true, false, cond, not, List, [], ◌∷◌, ◌++◌, length, get_or, bit_xor, Some, refl, sym, ap, subst, ◌∙◌, arith, inl, inr, append-nil}
use Rattle.std.specs.Prelude.{nat_lt, All}
use Rattle.std.specs.Int.{w16, w64, to_be_bytes}
use Rattle.std.proofs.lemmas.Bool.Decides.{nat_tests, leb_tells}
use Rattle.std.proofs.lemmas.List.{get_or_past}
use Rattle.websocket.specs.declared.protocol.frame.coding.OpCode.{OpCode}
use Rattle.websocket.specs.declared.protocol.frame.coding.OpCode.TheVariants as op
use Rattle.websocket.specs.declared.protocol.frame.coding.Control.TheVariants as control
use Rattle.websocket.specs.declared.protocol.frame.coding.Data.TheVariants as kind
use Rattle.websocket.specs.FrameHeader.{IsMask, encode_header, extended_length, extended_len, length_bits, first_byte_of}
use Rattle.websocket.specs.OpCode.{opcode_bits}
use Rattle.websocket.specs.Mask.{mask_from}
use Rattle.websocket.proofs.LengthLemmas.{ByteAtEach}
use Rattle.websocket.proofs.DecodeLemmas.{eqb_false, ltb_true, ltb_false}
use Rattle.websocket.proofs.FrameHeaderLemmas.{length-encode_header}
use Rattle.websocket.proofs.MaskLemmas.{length-mask_from}
use Rattle.web_frames.specs.declared.position.Position.TheVariants.{Head}
use Rattle.web_frames.specs.Frames.{Standing, fresh, at_end, after_bytes, data_in}
use Rattle.web_frames.specs.Clients.{ClientFrame, Part, Ping, Pong, masked_header, frame_bytes, begun_after, frames_bytes, data_of, carried, IsSent, AllFramesAreRead}
use Rattle.web_frames.proofs.Reading.{after-append, data-append}
use Rattle.web_frames.proofs.Heads.{in_head, judged, whole_head}
use Rattle.web_frames.proofs.Payloads.{in_data, goes_on, data_reads, in_pong, pong_reads, in_ping, ping_reads, IsBehind}

-- ---- bytes of a header

pub each_cons : (b : ℕ) (bs : List ℕ) → b < 256 → ByteAtEach bs → ByteAtEach (b ∷ bs)
each_cons b bs small rest zero = small
each_cons b bs small rest (suc i) = rest i

pub each_append : (xs ys : List ℕ) → ByteAtEach xs → ByteAtEach ys → ByteAtEach (xs ++ ys)
each_append [] ys hx hy i = hy i
each_append (x ∷ xs) ys hx hy zero = hx 0
each_append (x ∷ xs) ys hx hy (suc i) = each_append xs ys (λ k. hx (suc k)) hy i

pub each_nil : ByteAtEach []
each_nil i = omega arith

each_two_bytes : (n : ℕ) → ByteAtEach (to_be_bytes w16 n)
each_two_bytes n zero = omega arith
each_two_bytes n (suc zero) = omega arith
each_two_bytes n (suc (suc i)) = omega arith

each_eight_bytes : (n : ℕ) → ByteAtEach (to_be_bytes w64 n)
each_eight_bytes n zero = omega arith
each_eight_bytes n (suc zero) = omega arith
each_eight_bytes n (suc (suc zero)) = omega arith
each_eight_bytes n (suc (suc (suc zero))) = omega arith
each_eight_bytes n (suc (suc (suc (suc zero)))) = omega arith
each_eight_bytes n (suc (suc (suc (suc (suc zero))))) = omega arith
each_eight_bytes n (suc (suc (suc (suc (suc (suc zero)))))) = omega arith
each_eight_bytes n (suc (suc (suc (suc (suc (suc (suc zero))))))) = omega arith
each_eight_bytes n (suc (suc (suc (suc (suc (suc (suc (suc i)))))))) = omega arith

pub each_extended : (n : ℕ) → ByteAtEach (extended_length n)
each_extended n = elim (leb_tells 126 n) [
  | inr p ↦ rw (ltb_true n 126 p.1) each_nil
  | inl p ↦ elim (leb_tells 65536 n) [
    | inr q ↦ rw (ltb_false n 126 p.1, ltb_true n 65536 q.1) (each_two_bytes n)
    | inl q ↦ rw (ltb_false n 126 p.1, ltb_false n 65536 q.1) (each_eight_bytes n)
  ]
]

pub short_bits : (n : ℕ) → length_bits n < 128
short_bits n = grind (arith, nat_tests)

pub each_key : (key : List ℕ) → IsMask (Some key) → ByteAtEach key
each_key key valid i = elim (leb_tells (length key) i) [
  | inl p ↦ rw (get_or_past key i 0 p.1) (omega arith)
  | inr p ↦ valid.1 i 0 p.1
]

pub bits_small : (what : OpCode) → opcode_bits what < 16
bits_small (op.Data kind.Continue) = omega arith
bits_small (op.Data kind.Text) = omega arith
bits_small (op.Data kind.Binary) = omega arith
bits_small (op.Control control.Close) = omega arith
bits_small (op.Control control.Ping) = omega arith
bits_small (op.Control control.Pong) = omega arith

first_small : (f : Bool) (what : OpCode) (key : List ℕ) → first_byte_of (masked_header f what key) < 256
first_small true what key = let bits = bits_small what in omega (arith, bits)
first_small false what key = let bits = bits_small what in omega (arith, bits)

second_small : (f : Bool) (what : OpCode) (key : List ℕ) (n : ℕ) → 128 + length_bits n < 256
second_small f what key n = let bits = short_bits n in omega (arith, bits)

each_header : (f : Bool) (what : OpCode) (key : List ℕ) (n : ℕ) → IsMask (Some key) → ByteAtEach (encode_header (masked_header f what key) n)
unfolding encode_header
each_header f what key n valid =
    each_cons (first_byte_of (masked_header f what key)) ((128 + length_bits n) ∷ (extended_length n ++ key)) (first_small f what key)
    (each_cons (128 + length_bits n) (extended_length n ++ key) (second_small f what key n) (each_append (extended_length n) key (each_extended n) (each_key key valid)))

pub extended_short : (n : ℕ) → extended_len n ≤ 8
extended_short n = grind (arith, nat_tests)

header_short : (f : Bool) (what : OpCode) (key : List ℕ) (n : ℕ) → IsMask (Some key) → length (encode_header (masked_header f what key) n) ≤ 14
header_short f what key n valid = omega (arith, length-encode_header (masked_header f what key) n valid, extended_short n)

-- ---- a frame

-- Reading stands between two frames of a client.
pub record IsReady (s : Standing) (b : Bool) : Type 0 where
  pub masked : s.masked ≡ true
  pub position : s.position ≡ Head
  pub head : s.head ≡ []
  pub begun : s.begun ≡ b

pub header_read : (s : Standing) (b f : Bool) (what : OpCode) (key : List ℕ) (n : ℕ) → IsReady s b → IsMask (Some key) → n < 2 ^ 63
    → (after_bytes s (encode_header (masked_header f what key) n) ≡ judged (in_head s (encode_header (masked_header f what key) n)) (masked_header f what key) n)
    × (data_in s (encode_header (masked_header f what key) n) ≡ [])
header_read s b f what key n ready valid lt =
    whole_head s (masked_header f what key) n ready.position ready.head (record { mask = valid; top_bit_clear = lt }) (each_header f what key n valid) (header_short f what key n valid)

-- In the payload of a part.
abbrev in_part : Standing → Bool → (key : List ℕ) → ℕ → Standing
in_part s f key n = in_data (record s { masked = true; head = []; begun = not f; control = [] }) key 0 n

part_begins : (s : Standing) (b f : Bool) (key : List ℕ) (n : ℕ) → IsReady s b → IsMask (Some key) → n < 2 ^ 63
    → after_bytes s (encode_header (masked_header f (op.Data (cond b kind.Continue kind.Binary)) key) n) ≡ at_end (in_part s f key n)
part_begins s true f key n ready valid lt =
    let read = header_read s true f (op.Data kind.Continue) key n ready valid lt in
    let m : s.masked ≡ true = ready.masked in
    let b : s.begun ≡ true = ready.begun in
    rw (read.0, m, b)
part_begins s false f key n ready valid lt =
    let read = header_read s false f (op.Data kind.Binary) key n ready valid lt in
    let m : s.masked ≡ true = ready.masked in
    let b : s.begun ≡ false = ready.begun in
    rw (read.0, m, b)

part_read : (s : Standing) (b f : Bool) (key payload : List ℕ) → IsReady s b → IsMask (Some key) → length payload < 2 ^ 63
    → IsReady (after_bytes s (frame_bytes b (Part f key payload))) (not f) × (data_in s (frame_bytes b (Part f key payload)) ≡ payload)
unfolding mask_from
part_read s b f key [] ready valid lt =
    let h = masked_header f (op.Data (cond b kind.Continue kind.Binary)) key in
    let bare : frame_bytes b (Part f key []) ≡ encode_header h 0 = append-nil (encode_header h 0) in
    let stands : after_bytes s (frame_bytes b (Part f key [])) ≡ at_end (in_part s f key 0) = ap (after_bytes s) bare ∙ part_begins s b f key 0 ready valid (omega arith) in (
      subst (λ (t : Standing). IsReady t (not f)) (sym stands) (record { masked = refl; position = refl; head = refl; begun = refl }),
      ap (data_in s) bare ∙ (header_read s b f (op.Data (cond b kind.Continue kind.Binary)) key 0 ready valid (omega arith)).1,
    )
part_read s b f key (x ∷ xs) ready valid lt =
    let n = length (x ∷ xs) in
    let h = masked_header f (op.Data (cond b kind.Continue kind.Binary)) key in
    let bytes = encode_header h n in
    let rest : List ℕ = mask_from key 0 (x ∷ xs) in
    let inside : after_bytes s bytes ≡ in_part s f key n = part_begins s b f key n ready valid lt ∙ goes_on (record s { masked = true; head = []; begun = not f; control = [] }) key 0 n (omega arith) in
    let read = data_reads (record s { masked = true; head = []; begun = not f; control = [] }) key 0 n x xs (omega arith) in
    let none : n - n ≡ 0 = omega arith in
    let stands : after_bytes s (bytes ++ rest) ≡ at_end (in_data (record s { masked = true; head = []; begun = not f; control = [] }) key ((0 + n) % 4) 0) =
    after-append s bytes rest ∙ (ap (λ (t : Standing). after_bytes t rest) inside ∙ (read.1 ∙ ap (λ k. at_end (in_data (record s { masked = true; head = []; begun = not f; control = [] }) key ((0 + n) % 4) k)) none)) in (
      subst (λ (t : Standing). IsReady t (not f)) (sym stands) (record { masked = refl; position = refl; head = refl; begun = refl }),
      data-append s bytes rest
          ∙ (ap (λ (d : List ℕ). d ++ data_in (after_bytes s bytes) rest) (header_read s b f (op.Data (cond b kind.Continue kind.Binary)) key n ready valid lt).1 ∙ (ap (λ (t : Standing). data_in t rest) inside ∙ read.0)),
    )

pub not_over : (n : ℕ) → n ≤ 125 → nat_lt 125 n ≡ false
not_over n le = ltb_false 125 n le

behind_ready : (s t : Standing) (b : Bool) (key : List ℕ) → IsReady s b → IsBehind (record s { masked = true; head = []; key = key }) t → IsReady t b
behind_ready s t b key ready behind = record { masked = behind.masked; position = behind.position; head = behind.head; begun = behind.begun ∙ ready.begun }

ping_read : (s : Standing) (b : Bool) (key payload : List ℕ) → IsReady s b → IsMask (Some key) → length payload ≤ 125
    → IsReady (after_bytes s (frame_bytes b (Ping key payload))) b × (data_in s (frame_bytes b (Ping key payload)) ≡ [])
unfolding mask_from
ping_read s b key [] ready valid le =
    let h = masked_header true (op.Control control.Ping) key in
    let read = header_read s b true (op.Control control.Ping) key 0 ready valid (omega arith) in
    let m : s.masked ≡ true = ready.masked in
    let bare : frame_bytes b (Ping key []) ≡ encode_header h 0 = append-nil (encode_header h 0) in
    (rw (bare, read.0, m) (record { masked = refl; position = refl; head = refl; begun = ready.begun }), ap (data_in s) bare ∙ read.1)
ping_read s b key (x ∷ xs) ready valid le =
    let n = length (x ∷ xs) in
    let bytes = encode_header (masked_header true (op.Control control.Ping) key) n in
    let first = bit_xor x (get_or key 0 0) in
    let rest : List ℕ = mask_from key 1 xs in
    let read = header_read s b true (op.Control control.Ping) key n ready valid (omega arith) in
    let m : s.masked ≡ true = ready.masked in
    let size : length (first ∷ rest) ≡ n = ap suc (length-mask_from key 1 xs) in
    let inside : after_bytes s bytes ≡ in_ping (record s { masked = true; head = []; key = key }) 0 (length (first ∷ rest)) [] =
    rw (read.0, m, not_over n le, eqb_false n 0 (omega arith), size) in
    let ping = ping_reads (record s { masked = true; head = []; key = key }) 0 [] first rest (omega (arith, size, le)) in
    let stands : after_bytes s (bytes ++ first ∷ rest) ≡ after_bytes (in_ping (record s { masked = true; head = []; key = key }) 0 (length (first ∷ rest)) []) (first ∷ rest) =
    after-append s bytes (first ∷ rest) ∙ ap (λ (t : Standing). after_bytes t (first ∷ rest)) inside in (
      subst (λ (t : Standing). IsReady t b) (sym stands) (behind_ready s _ b key ready ping.0),
      data-append s bytes (first ∷ rest) ∙ (ap (λ (d : List ℕ). d ++ data_in (after_bytes s bytes) (first ∷ rest)) read.1 ∙ (ap (λ (t : Standing). data_in t (first ∷ rest)) inside ∙ ping.1)),
    )

pong_read : (s : Standing) (b : Bool) (key payload : List ℕ) → IsReady s b → IsMask (Some key) → length payload ≤ 125
    → IsReady (after_bytes s (frame_bytes b (Pong key payload))) b × (data_in s (frame_bytes b (Pong key payload)) ≡ [])
unfolding mask_from
pong_read s b key [] ready valid le =
    let h = masked_header true (op.Control control.Pong) key in
    let read = header_read s b true (op.Control control.Pong) key 0 ready valid (omega arith) in
    let m : s.masked ≡ true = ready.masked in
    let bare : frame_bytes b (Pong key []) ≡ encode_header h 0 = append-nil (encode_header h 0) in
    (rw (bare, read.0, m) (record { masked = refl; position = refl; head = refl; begun = ready.begun }), ap (data_in s) bare ∙ read.1)
pong_read s b key (x ∷ xs) ready valid le =
    let n = length (x ∷ xs) in
    let bytes = encode_header (masked_header true (op.Control control.Pong) key) n in
    let first = bit_xor x (get_or key 0 0) in
    let rest : List ℕ = mask_from key 1 xs in
    let read = header_read s b true (op.Control control.Pong) key n ready valid (omega arith) in
    let m : s.masked ≡ true = ready.masked in
    let size : length (first ∷ rest) ≡ n = ap suc (length-mask_from key 1 xs) in
    let inside : after_bytes s bytes ≡ in_pong (record s { masked = true; head = []; key = key }) 0 (length (first ∷ rest)) [] =
    rw (read.0, m, not_over n le, eqb_false n 0 (omega arith), size) in
    let pong = pong_reads (record s { masked = true; head = []; key = key }) 0 [] first rest (omega (arith, size, le)) in
    let stands : after_bytes s (bytes ++ first ∷ rest) ≡ after_bytes (in_pong (record s { masked = true; head = []; key = key }) 0 (length (first ∷ rest)) []) (first ∷ rest) =
    after-append s bytes (first ∷ rest) ∙ ap (λ (t : Standing). after_bytes t (first ∷ rest)) inside in (
      subst (λ (t : Standing). IsReady t b) (sym stands) (behind_ready s _ b key ready pong.0),
      data-append s bytes (first ∷ rest) ∙ (ap (λ (d : List ℕ). d ++ data_in (after_bytes s bytes) (first ∷ rest)) read.1 ∙ (ap (λ (t : Standing). data_in t (first ∷ rest)) inside ∙ pong.1)),
    )

pub frame_read : (s : Standing) (b : Bool) (f : ClientFrame) → IsReady s b → IsSent f → IsReady (after_bytes s (frame_bytes b f)) (begun_after b f) × (data_in s (frame_bytes b f) ≡ data_of f)
frame_read s b (Part is_last key payload) ready sent = part_read s b is_last key payload ready sent.0 sent.1
frame_read s b (Ping key payload) ready sent = ping_read s b key payload ready sent.0 sent.1
frame_read s b (Pong key payload) ready sent = pong_read s b key payload ready sent.0 sent.1

-- ---- all frames

frames_read : (s : Standing) (b : Bool) (fs : List ClientFrame) → IsReady s b → All IsSent fs → data_in s (frames_bytes b fs) ≡ carried fs
frames_read s b [] ready sent = refl
frames_read s b (f ∷ fs) ready sent =
    let one = frame_read s b f ready (sent 0 f (omega arith)) in
    let others = frames_read (after_bytes s (frame_bytes b f)) (begun_after b f) fs one.0 (λ k d lt. sent (suc k) d (omega arith)) in
    data-append s (frame_bytes b f) (frames_bytes (begun_after b f) fs) ∙ (ap (λ (d : List ℕ). d ++ data_in (after_bytes s (frame_bytes b f)) (frames_bytes (begun_after b f) fs)) one.1 ∙ ap (λ (d : List ℕ). data_of f ++ d) others)

pub all_read : AllFramesAreRead
all_read fs sent = frames_read (fresh true) false fs (record { masked = refl; position = refl; head = refl; begun = refl }) sent

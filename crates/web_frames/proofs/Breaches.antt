-- Behind a forbidden header, and behind a close frame, nothing is read.
use Rattle.std.proofs.Common.{◌≡◌, ℕ, suc, ◌+◌, ◌<◌, ◌≤◌, Bool, true, false, cond, not, List, [], ◌∷◌, ◌++◌, length, get_or, bit_xor, Option, None, Some, refl, sym, ap, subst, ◌∙◌, arith, inl, inr, append-nil}
use Rattle.std.specs.Prelude.{nat_lt, ◌||◌, ◌⊎◌, is_some, All}
use Rattle.websocket.specs.declared.protocol.frame.header.FrameHeader.{FrameHeader}
use Rattle.websocket.specs.declared.protocol.frame.coding.OpCode.{OpCode}
use Rattle.websocket.specs.declared.protocol.frame.coding.OpCode.TheVariants as op
use Rattle.websocket.specs.declared.protocol.frame.coding.Control.TheVariants as control
use Rattle.websocket.specs.declared.protocol.frame.coding.Data.TheVariants as kind
use Rattle.websocket.specs.FrameHeader.{IsMask, IsHeader, encode_header, extended_length, length_bits, first_byte_of, flag_bits, mask_bytes}
use Rattle.websocket.specs.Frame.{encode_frame}
use Rattle.websocket.specs.Mask.{mask_from}
use Rattle.websocket.proofs.LengthLemmas.{ByteAtEach}
use Rattle.websocket.proofs.DecodeLemmas.{eqb_false, ltb_true}
use Rattle.websocket.proofs.FrameHeaderLemmas.{length-encode_header}
use Rattle.websocket.proofs.MaskLemmas.{length-mask_from}
use Rattle.web_frames.specs.declared.position.Breach.{Breach}
use Rattle.web_frames.specs.declared.position.Position.{Position}
use Rattle.web_frames.specs.declared.position.Breach.TheVariants.{Protocol, Text}
use Rattle.web_frames.specs.declared.position.Position.TheVariants.{Ended, Broken}
use Rattle.web_frames.specs.Frames.{Standing, fresh, broken, is_refused, by_opcode, byte_at, after_byte, brought_at, brought, put, after_bytes, data_in}
use Rattle.web_frames.specs.Clients.{ClientFrame, masked_header, frame_bytes, begun_after, frames_bytes, data_of, carried, IsSent}
use Rattle.web_frames.specs.Breaches.{begun_after_all, IsOutOfPlace, IsForbidden, NothingIsReadAfterABreach, NothingIsReadAfterAClose}
use Rattle.web_frames.proofs.Reading.{after-append, data-append}
use Rattle.web_frames.proofs.Heads.{in_head, judged, whole_head}
use Rattle.web_frames.proofs.Payloads.{in_close, close_reads}
use Rattle.web_frames.proofs.Clients.{IsReady, frame_read, header_read, not_over, each_cons, each_append, each_nil, each_extended, each_key, bits_small, short_bits, extended_short}

-- ---- the bytes of any header

flag_at_most : (f : Bool) (bit : ℕ) → flag_bits f bit ≤ bit
flag_at_most true bit = omega arith
flag_at_most false bit = omega arith

any_first_small : (h : FrameHeader) → first_byte_of h < 256
any_first_small h =
    omega (arith, bits_small h.opcode, flag_at_most h.is_final 128, flag_at_most h.rsv1 64, flag_at_most h.rsv2 32, flag_at_most h.rsv3 16)

any_second_small : (h : FrameHeader) (n : ℕ) → flag_bits (is_some h.mask) 128 + length_bits n < 256
any_second_small h n = omega (arith, short_bits n, flag_at_most (is_some h.mask) 128)

each_mask : (mask : Option (List ℕ)) → IsMask mask → ByteAtEach (mask_bytes mask)
each_mask None valid = each_nil
each_mask (Some key) valid = each_key key valid

any_header : (h : FrameHeader) (n : ℕ) → IsMask h.mask → ByteAtEach (encode_header h n)
unfolding encode_header
any_header h n valid =
    each_cons (first_byte_of h) ((flag_bits (is_some h.mask) 128 + length_bits n) ∷ (extended_length n ++ mask_bytes h.mask)) (any_first_small h)
    (each_cons (flag_bits (is_some h.mask) 128 + length_bits n) (extended_length n ++ mask_bytes h.mask) (any_second_small h n) (each_append (extended_length n) (mask_bytes h.mask) (each_extended n) (each_mask h.mask valid)))

at_most_four : (masked : Bool) → cond masked 4 0 ≤ 4
at_most_four true = omega arith
at_most_four false = omega arith

any_header_short : (h : FrameHeader) (n : ℕ) → IsMask h.mask → length (encode_header h n) ≤ 14
any_header_short h n valid = omega (arith, length-encode_header h n valid, extended_short n, at_most_four (is_some h.mask))

-- ---- a forbidden header is refused

any_is_set : (a b c d : Bool) → (a ≡ true) ⊎ (b ≡ true) ⊎ (c ≡ true) → (a || b || c || d) ≡ true
any_is_set true b c d e = refl
any_is_set false true c d e = refl
any_is_set false false true d e = refl
any_is_set false false false d (inl e) = absurd cc
any_is_set false false false d (inr (inl e)) = absurd cc
any_is_set false false false d (inr (inr e)) = absurd cc

last_is_set : (a b c d : Bool) → d ≡ true → (a || b || c || d) ≡ true
last_is_set true b c d e = refl
last_is_set false true c d e = refl
last_is_set false false true d e = refl
last_is_set false false false d e = e

refused_at_once : (s : Standing) (h : FrameHeader) (n : ℕ) → is_refused s h ≡ true → judged s h n ≡ broken s Protocol
refused_at_once s h n e = rw e refl

either_is : (f : Bool) (long : Bool) → long ≡ true → (not f || long) ≡ true
either_is true long e = e
either_is false long e = refl

out_of_place : (s : Standing) (b : Bool) (what : OpCode) (h : FrameHeader) (n : ℕ) → s.begun ≡ b → IsOutOfPlace b what h n
    → (why : Breach) × (by_opcode s what h n ≡ broken s why)
out_of_place s b (op.Control what) h n begun (inl e) = (Protocol, rw e refl)
out_of_place s b (op.Control what) h n begun (inr lt) = (Protocol, rw (either_is h.is_final (nat_lt 125 n) (ltb_true 125 n lt)) refl)
out_of_place s b (op.Data kind.Continue) h n begun e = (Protocol, rw (begun ∙ e) refl)
out_of_place s b (op.Data kind.Binary) h n begun e = (Protocol, rw (begun ∙ e) refl)
out_of_place s b (op.Data kind.Text) h n begun e = (Text, refl)

judged_by_place : (s : Standing) (h : FrameHeader) (n : ℕ) (refused : Bool) → is_refused s h ≡ refused → (why : Breach) × (by_opcode s h.opcode h n ≡ broken s why)
    → (why : Breach) × (judged s h n ≡ broken s why)
judged_by_place s h n true e place = (Protocol, rw e refl)
judged_by_place s h n false e place = (place.0, rw e place.1)

no_mask : (s : Standing) (h : FrameHeader) → s.masked ≡ true → h.mask ≡ None → is_refused s h ≡ true
no_mask s h masked none = last_is_set h.rsv1 h.rsv2 h.rsv3 (cond s.masked (not (is_some h.mask)) (is_some h.mask)) (rw (masked, none) refl)

judged_broken : (s : Standing) (b : Bool) (h : FrameHeader) (n : ℕ) → s.masked ≡ true → s.begun ≡ b → IsForbidden b h n → (why : Breach) × (judged s h n ≡ broken s why)
judged_broken s b h n masked begun (inl reserved) =
    (Protocol, refused_at_once s h n (any_is_set h.rsv1 h.rsv2 h.rsv3 (cond s.masked (not (is_some h.mask)) (is_some h.mask)) reserved))
judged_broken s b h n masked begun (inr (inl none)) = (Protocol, refused_at_once s h n (no_mask s h masked none))
judged_broken s b h n masked begun (inr (inr place)) = judged_by_place s h n (is_refused s h) refl (out_of_place s b h.opcode h n begun place)

-- ---- and nothing is read any more

-- A byte that leaves reading as it is and brings nothing, and then others.
stays : (s : Standing) (place : Position) (b : ℕ) (bs : List ℕ) → after_byte s b ≡ s → brought s b ≡ None → ((after_bytes s bs).position ≡ place) × (data_in s bs ≡ [])
    → ((after_bytes s (b ∷ bs)).position ≡ place) × (data_in s (b ∷ bs) ≡ [])
stays s place b bs same none more = (
  ap (λ (t : Standing). (after_bytes t bs).position) same ∙ more.0,
  ap (λ o. put o (data_in (after_byte s b) bs)) none ∙ (ap (λ (t : Standing). data_in t bs) same ∙ more.1),
)

still_broken : (s : Standing) (why : Breach) (bytes : List ℕ) → s.position ≡ Broken why → ((after_bytes s bytes).position ≡ Broken why) × (data_in s bytes ≡ [])
still_broken s why [] at = (at, refl)
still_broken s why (b ∷ bs) at = stays s (Broken why) b bs (ap (λ (p : Position). byte_at p s b) at) (ap (λ (p : Position). brought_at p s b) at) (still_broken s why bs at)

still_ended : (s : Standing) (bytes : List ℕ) → s.position ≡ Ended → ((after_bytes s bytes).position ≡ Ended) × (data_in s bytes ≡ [])
still_ended s [] at = (at, refl)
still_ended s (b ∷ bs) at = stays s Ended b bs (ap (λ (p : Position). byte_at p s b) at) (ap (λ (p : Position). brought_at p s b) at) (still_ended s bs at)

-- ---- after the frames of a client

-- These frames are read as what they carry, and reading stands between two frames.
all_frames : (s : Standing) (b : Bool) (fs : List ClientFrame) → IsReady s b → All IsSent fs
    → IsReady (after_bytes s (frames_bytes b fs)) (begun_after_all b fs) × (data_in s (frames_bytes b fs) ≡ carried fs)
all_frames s b [] ready sent = (ready, refl)
all_frames s b (f ∷ fs) ready sent =
    let one = frame_read s b f ready (sent 0 f (omega arith)) in
    let others = all_frames (after_bytes s (frame_bytes b f)) (begun_after b f) fs one.0 (λ k d lt. sent (suc k) d (omega arith)) in (
      subst (λ (t : Standing). IsReady t (begun_after_all (begun_after b f) fs)) (sym (after-append s (frame_bytes b f) (frames_bytes (begun_after b f) fs))) others.0,
      data-append s (frame_bytes b f) (frames_bytes (begun_after b f) fs) ∙ (ap (λ (d : List ℕ). d ++ data_in (after_bytes s (frame_bytes b f)) (frames_bytes (begun_after b f) fs)) one.1 ∙ ap (λ (d : List ℕ). data_of f ++ d) others.1),
    )

start : IsReady (fresh true) false
start = record { masked = refl; position = refl; head = refl; begun = refl }

-- Bytes of which nothing is read add nothing.
adds_nothing : (s : Standing) (bytes others read : List ℕ) → data_in s bytes ≡ read → data_in (after_bytes s bytes) others ≡ [] → data_in s (bytes ++ others) ≡ read
adds_nothing s bytes others read reads none =
    data-append s bytes others ∙ (ap (λ (d : List ℕ). data_in s bytes ++ d) none ∙ (append-nil (data_in s bytes) ∙ reads))

-- What a ready reader makes of a forbidden header and what follows it.
breaks : (s : Standing) (b : Bool) (h : FrameHeader) (n : ℕ) (others : List ℕ) → IsReady s b → IsHeader h n → IsForbidden b h n
    → (why : Breach) × ((after_bytes s (encode_header h n ++ others)).position ≡ Broken why) × (data_in s (encode_header h n ++ others) ≡ [])
breaks s b h n others ready valid forbidden =
    let bytes : List ℕ = encode_header h n in
    let read = whole_head s h n ready.position ready.head valid (any_header h n valid.mask) (any_header_short h n valid.mask) in
    let judge = judged_broken (in_head s bytes) b h n ready.masked ready.begun forbidden in
    let at : (after_bytes s bytes).position ≡ Broken judge.0 = ap (λ (t : Standing). t.position) (read.0 ∙ judge.1) in
    let stays = still_broken (after_bytes s bytes) judge.0 others at in
    (judge.0, ap (λ (t : Standing). t.position) (after-append s bytes others) ∙ stays.0, adds_nothing s bytes others [] read.1 stays.1)

pub nothing_after_a_breach : NothingIsReadAfterABreach
nothing_after_a_breach fs h size others sent valid forbidden =
    let before = all_frames (fresh true) false fs start sent in
    let after = breaks (after_bytes (fresh true) (frames_bytes false fs)) (begun_after_all false fs) h size others before.0 valid forbidden in
    record {
      reads = adds_nothing (fresh true) (frames_bytes false fs) (encode_header h size ++ others) (carried fs) before.1 after.2;
      why = after.0;
      broken = ap (λ (t : Standing). t.position) (after-append (fresh true) (frames_bytes false fs) (encode_header h size ++ others)) ∙ after.1;
    }

-- ---- a close frame

close_read : (s : Standing) (b : Bool) (key payload : List ℕ) → IsReady s b → IsMask (Some key) → length payload ≤ 125
    → ((after_bytes s (encode_frame (masked_header true (op.Control control.Close) key) payload)).position ≡ Ended)
    × (data_in s (encode_frame (masked_header true (op.Control control.Close) key) payload) ≡ [])
unfolding mask_from
close_read s b key [] ready valid le =
    let h = masked_header true (op.Control control.Close) key in
    let read = header_read s b true (op.Control control.Close) key 0 ready valid (omega arith) in
    let m : s.masked ≡ true = ready.masked in
    let bare : encode_frame h [] ≡ encode_header h 0 = append-nil (encode_header h 0) in
    (rw (bare, read.0, m) refl, ap (data_in s) bare ∙ read.1)
close_read s b key (x ∷ xs) ready valid le =
    let n = length (x ∷ xs) in
    let bytes = encode_header (masked_header true (op.Control control.Close) key) n in
    let first = bit_xor x (get_or key 0 0) in
    let rest : List ℕ = mask_from key 1 xs in
    let read = header_read s b true (op.Control control.Close) key n ready valid (omega arith) in
    let m : s.masked ≡ true = ready.masked in
    let size : length (first ∷ rest) ≡ n = ap suc (length-mask_from key 1 xs) in
    let inside : after_bytes s bytes ≡ in_close (record s { masked = true; head = []; key = key }) 0 (length (first ∷ rest)) [] =
    rw (read.0, m, not_over n le, eqb_false n 0 (omega arith), size) in
    let close = close_reads (record s { masked = true; head = []; key = key }) 0 [] first rest (omega (arith, size, le)) in
    let stands : after_bytes s (bytes ++ first ∷ rest) ≡ after_bytes (in_close (record s { masked = true; head = []; key = key }) 0 (length (first ∷ rest)) []) (first ∷ rest) =
    after-append s bytes (first ∷ rest) ∙ ap (λ (t : Standing). after_bytes t (first ∷ rest)) inside in (
      ap (λ (t : Standing). t.position) stands ∙ close.0,
      data-append s bytes (first ∷ rest) ∙ (ap (λ (d : List ℕ). d ++ data_in (after_bytes s bytes) (first ∷ rest)) read.1 ∙ (ap (λ (t : Standing). data_in t (first ∷ rest)) inside ∙ close.1)),
    )

ends : (s : Standing) (b : Bool) (key payload others : List ℕ) → IsReady s b → IsMask (Some key) → length payload ≤ 125
    → ((after_bytes s (encode_frame (masked_header true (op.Control control.Close) key) payload ++ others)).position ≡ Ended)
    × (data_in s (encode_frame (masked_header true (op.Control control.Close) key) payload ++ others) ≡ [])
ends s b key payload others ready valid le =
    let bytes : List ℕ = encode_frame (masked_header true (op.Control control.Close) key) payload in
    let read = close_read s b key payload ready valid le in
    let stays = still_ended (after_bytes s bytes) others read.0 in
    (ap (λ (t : Standing). t.position) (after-append s bytes others) ∙ stays.0, adds_nothing s bytes others [] read.1 stays.1)

pub nothing_after_a_close : NothingIsReadAfterAClose
nothing_after_a_close fs key payload others sent valid le =
    let frame : List ℕ = encode_frame (masked_header true (op.Control control.Close) key) payload in
    let before = all_frames (fresh true) false fs start sent in
    let after = ends (after_bytes (fresh true) (frames_bytes false fs)) (begun_after_all false fs) key payload others before.0 valid le in
    record {
      reads = adds_nothing (fresh true) (frames_bytes false fs) (frame ++ others) (carried fs) before.1 after.1;
      ended = ap (λ (t : Standing). t.position) (after-append (fresh true) (frames_bytes false fs) (frame ++ others)) ∙ after.0;
    }

-- The bytes of a header are read as that header, whatever pieces they come in.
use Rattle.std.proofs.Common.{◌≡◌, ℕ, ◌≤◌, true, cond, List, [], ◌∷◌, ◌++◌, length, take, None, Some, Ok, refl, sym, ap, subst, ◌∙◌, arith, append_assoc, append-nil, length-append}
use Rattle.std.specs.Prelude.{nat_lt}
use Rattle.std.proofs.lemmas.List.{take_at}
use Rattle.websocket.specs.declared.protocol.frame.header.FrameHeader.{FrameHeader}
use Rattle.websocket.specs.FrameHeader.{IsHeader, encode_header, decode_header}
use Rattle.websocket.proofs.LengthLemmas.{ByteAtEach, ByteAtEach-take}
use Rattle.websocket.proofs.DecodeLemmas.{ltb_true}
use Rattle.websocket.proofs.FrameHeaderLemmas.{decode_header-encode_header}
use Rattle.websocket.proofs.CutHeaderLemmas.{decode_header_cut}
use Rattle.web_frames.specs.declared.position.Position.{Position}
use Rattle.web_frames.specs.declared.position.Position.TheVariants.{Head}
use Rattle.web_frames.specs.declared.position.Breach.TheVariants.{Protocol}
use Rattle.web_frames.specs.Frames.{Standing, broken, is_refused, by_opcode, after_byte, after_bytes, data_in}

abbrev pub in_head : Standing → List ℕ → Standing
in_head s p = record s { position = Head; head = p }

-- What follows a header that has come whole.
abbrev pub judged : Standing → FrameHeader → ℕ → Standing
judged s h n = cond (is_refused s h) (broken s Protocol) (by_opcode s h.opcode h n)

front_small : (xs ys zs : List ℕ) → xs ++ ys ≡ zs → ByteAtEach zs → ByteAtEach xs
front_small xs ys zs e small = subst ByteAtEach (ap (take (length xs)) (sym e) ∙ take_at xs ys (length xs) refl) (ByteAtEach-take (length xs) zs small)

room_for : (p q zs : List ℕ) (b : ℕ) → p ++ b ∷ q ≡ zs → length zs ≤ 14 → nat_lt (length p) 14 ≡ true
room_for p q zs b e short = ltb_true (length p) 14 (omega (arith, ap length e, length-append p (b ∷ q)))

-- A byte in mid-header, and the last one.
head_goes_on : (s : Standing) (h : FrameHeader) (n : ℕ) (p q : List ℕ) (b c : ℕ) → IsHeader h n → ByteAtEach (encode_header h n) → length (encode_header h n) ≤ 14
    → p ++ b ∷ c ∷ q ≡ encode_header h n → after_byte (in_head s p) b ≡ in_head s (p ++ b ∷ [])
head_goes_on s h n p q b c valid small short e =
    let whole : (p ++ b ∷ []) ++ c ∷ q ≡ encode_header h n = append_assoc p (b ∷ []) (c ∷ q) ∙ e in
    let cut : decode_header (p ++ b ∷ []) ≡ Ok None = decode_header_cut (p ++ b ∷ []) (front_small (p ++ b ∷ []) (c ∷ q) (encode_header h n) whole small) (h, n, c, q, valid, whole) in
    rw (room_for p (c ∷ q) (encode_header h n) b e short, cut)

head_ends : (s : Standing) (h : FrameHeader) (n : ℕ) (p : List ℕ) (b : ℕ) → IsHeader h n → length (encode_header h n) ≤ 14
    → p ++ b ∷ [] ≡ encode_header h n → after_byte (in_head s p) b ≡ judged (in_head s (encode_header h n)) h n
head_ends s h n p b valid short e =
    let whole : decode_header (p ++ b ∷ []) ≡ Ok (Some (h, n)) = ap decode_header (e ∙ sym (append-nil (encode_header h n))) ∙ decode_header-encode_header h n [] valid in
    rw (room_for p [] (encode_header h n) b e short, whole, e)

pub head_reads : (s : Standing) (h : FrameHeader) (n : ℕ) (p q : List ℕ) (b : ℕ) → IsHeader h n → ByteAtEach (encode_header h n) → length (encode_header h n) ≤ 14
    → p ++ b ∷ q ≡ encode_header h n
    → (after_bytes (in_head s p) (b ∷ q) ≡ judged (in_head s (encode_header h n)) h n) × (data_in (in_head s p) (b ∷ q) ≡ [])
head_reads s h n p [] b valid small short e = (head_ends s h n p b valid short e, refl)
head_reads s h n p (c ∷ q) b valid small short e =
    let next : after_byte (in_head s p) b ≡ in_head s (p ++ b ∷ []) = head_goes_on s h n p q b c valid small short e in
    let more = head_reads s h n (p ++ b ∷ []) q c valid small short (append_assoc p (b ∷ []) (c ∷ q) ∙ e) in
    (ap (λ (t : Standing). after_bytes t (c ∷ q)) next ∙ more.0, ap (λ (t : Standing). data_in t (c ∷ q)) next ∙ more.1)

-- A standing before a header.
pub before_head : (s : Standing) → s.position ≡ Head → s.head ≡ [] → s ≡ in_head s []
before_head s p h = ap (λ (x : List ℕ). record s { head = x }) h ∙ ap (λ (x : Position). record s { position = x; head = [] }) p

-- A whole header is read as that header.
pub whole_head : (s : Standing) (h : FrameHeader) (n : ℕ) → s.position ≡ Head → s.head ≡ [] → IsHeader h n → ByteAtEach (encode_header h n) → length (encode_header h n) ≤ 14
    → (after_bytes s (encode_header h n) ≡ judged (in_head s (encode_header h n)) h n) × (data_in s (encode_header h n) ≡ [])
unfolding encode_header
whole_head s h n place head valid small short =
    let start = before_head s place head in
    let read = head_reads s h n [] _ _ valid small short refl in
    (ap (λ (t : Standing). after_bytes t (encode_header h n)) start ∙ read.0, ap (λ (t : Standing). data_in t (encode_header h n)) start ∙ read.1)

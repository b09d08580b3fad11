-- What a client reads of the frames that a link says.
use Rattle.std.proofs.Common.{◌≡◌, ℕ, zero, suc, ◌-◌, ◌<◌, ◌≤◌, Bool, true, false, List, [], ◌∷◌, ◌++◌, length, None, refl, sym, ap, subst, ◌∙◌, arith, inl, inr, append-nil, append_assoc}
use Rattle.std.specs.Prelude.{nat_lt, if◌then◌else◌}
use Rattle.std.proofs.lemmas.Bool.Decides.{nat_tests, leb_tells}
use Rattle.websocket.specs.declared.protocol.frame.coding.OpCode.{OpCode}
use Rattle.websocket.specs.declared.protocol.frame.coding.OpCode.TheVariants as op
use Rattle.websocket.specs.declared.protocol.frame.coding.Control.TheVariants as control
use Rattle.websocket.specs.declared.protocol.frame.coding.Data.TheVariants as kind
use Rattle.websocket.specs.declared.protocol.frame.coding.Control.{Control}
use Rattle.websocket.specs.Connection.{whole_header}
use Rattle.websocket.specs.FrameHeader.{IsHeader, encode_header, extended_len}
use Rattle.websocket.specs.Frame.{encode_frame}
use Rattle.websocket.proofs.LengthLemmas.{ByteAtEach}
use Rattle.websocket.proofs.DecodeLemmas.{eqb_false, ltb_true, ltb_false}
use Rattle.websocket.proofs.FrameHeaderLemmas.{length-encode_header}
use Rattle.web_frames.specs.declared.position.Position.{Position}
use Rattle.web_frames.specs.Frames.{Standing, fresh, at_end, after_bytes, data_in, binary_header, control_header}
use Rattle.web_frames.proofs.Writing.{short_head, long_head, control_head}
use Rattle.web_frames.proofs.Reading.{after-append, data-append}
use Rattle.web_frames.proofs.Heads.{in_head, judged, whole_head}
use Rattle.web_frames.proofs.Payloads.{in_data, zero_reads, no_key, in_pong, pong_reads, in_close, close_reads}
use Rattle.web_link.specs.declared.saying.Saying.{Saying}
use Rattle.web_link.specs.declared.saying.Saying.TheVariants.{Between, Inside, Closed}
use Rattle.web_link.specs.Web.{StandsAt, Says}

-- ---- headers of a server

each_two : (a b : ℕ) → a < 256 → b < 256 → ByteAtEach (a ∷ b ∷ [])
each_two a b ha hb zero = ha
each_two a b ha hb (suc zero) = hb
each_two a b ha hb (suc (suc i)) = omega arith

each_four : (a b c d : ℕ) → a < 256 → b < 256 → c < 256 → d < 256 → ByteAtEach (a ∷ b ∷ c ∷ d ∷ [])
each_four a b c d ha hb hc hd zero = ha
each_four a b c d ha hb hc hd (suc zero) = hb
each_four a b c d ha hb hc hd (suc (suc zero)) = hc
each_four a b c d ha hb hc hd (suc (suc (suc zero))) = hd
each_four a b c d ha hb hc hd (suc (suc (suc (suc i)))) = omega arith

small_head : (n : ℕ) → n < 65536 → ByteAtEach (encode_header binary_header n)
small_head n lt = elim (leb_tells 126 n) [
  | inr p ↦ rw (short_head n p.1) (each_two 130 n (omega arith) (omega arith))
  | inl p ↦ rw (long_head n p.1 lt) (each_four 130 126 _ _ (omega arith) (omega arith) (omega arith) (omega arith))
]

small_control : (what : Control) (n : ℕ) → n ≤ 125 → ByteAtEach (encode_header (control_header what) n)
small_control control.Close n le = rw (control_head control.Close n le) (each_two 136 n (omega arith) (omega arith))
small_control control.Ping n le = rw (control_head control.Ping n le) (each_two 137 n (omega arith) (omega arith))
small_control control.Pong n le = rw (control_head control.Pong n le) (each_two 138 n (omega arith) (omega arith))

extended_short : (n : ℕ) → extended_len n ≤ 8
extended_short n = grind (arith, nat_tests)

is_header : (what : OpCode) (n : ℕ) → n < 65536 → IsHeader (whole_header what None) n
is_header what n lt = record { mask = tt; top_bit_clear = omega arith }

short_enough : (what : OpCode) (n : ℕ) → length (encode_header (whole_header what None) n) ≤ 14
short_enough what n = omega (arith, length-encode_header (whole_header what None) n tt, extended_short n)

-- ---- a message

-- The header of a message is read: its payload follows.
begins_message : (c : Standing) (n : ℕ) → StandsAt Between c → 1 ≤ n → n < 65536
    → StandsAt (Inside n) (after_bytes c (encode_header binary_header n)) × (data_in c (encode_header binary_header n) ≡ [])
begins_message c n at some lt =
    let read = whole_head c binary_header n at.1 at.2 (is_header (op.Data kind.Binary) n lt) (small_head n lt) (short_enough (op.Data kind.Binary) n) in
    let masked : c.masked ≡ false = at.0 in
    let begun : c.begun ≡ false = at.3 in
    (rw (read.0, masked, begun, eqb_false n 0 some) (refl, refl, refl, refl, refl, refl, some), read.1)

pub says_head : (bytes given : List ℕ) (n : ℕ) → Says bytes given Between → 1 ≤ n → n < 65536 → Says (bytes ++ encode_header binary_header n) given (Inside n)
says_head bytes given n says some lt =
    let more = begins_message (after_bytes (fresh false) bytes) n says.stands some lt in
    record {
      said = data-append (fresh false) bytes (encode_header binary_header n) ∙ (ap (λ t. data_in (fresh false) bytes ++ t) more.1 ∙ (append-nil (data_in (fresh false) bytes) ∙ says.said));
      stands = subst (λ (t : Standing). StandsAt (Inside n) t) (sym (after-append (fresh false) bytes (encode_header binary_header n))) more.0;
    }

-- ---- a payload

-- Where the frame stands after this much of its payload.
abbrev pub after_payload : ℕ → ℕ → Saying
after_payload left count = if nat_lt count left then Inside (left - count) else Between

pub after_some : (left count : ℕ) → count < left → after_payload left count ≡ Inside (left - count)
after_some left count lt = rw (ltb_true count left lt)

pub after_all : (left count : ℕ) → left ≤ count → after_payload left count ≡ Between
after_all left count le = rw (ltb_false count left le)

in_payload : (c : Standing) (left : ℕ) → StandsAt (Inside left) c → c ≡ in_data c no_key c.turn left
in_payload c left at =
    ap (λ (x : ℕ). record c { left = x }) at.5 ∙ (ap (λ (x : List ℕ). record c { key = x; left = left }) at.4 ∙ ap (λ (x : Position). record c { position = x; key = no_key; left = left }) at.1)

ends_as : (c : Standing) (turn left : ℕ) (is_in : Bool) → c.masked ≡ false → c.head ≡ [] → c.begun ≡ false → nat_lt 0 left ≡ is_in
    → StandsAt (if is_in then Inside left else Between) (at_end (in_data c no_key turn left))
ends_as c turn left true m h b e =
    let some : 1 ≤ left = grind (arith, nat_tests, e) in
    rw (eqb_false left 0 some) (m, refl, h, b, refl, refl, some)
ends_as c turn left false m h b e =
    let none : left ≡ 0 = grind (arith, nat_tests, e) in
    rw none (m, refl, h, b)

reads_payload : (c : Standing) (left : ℕ) (x : ℕ) (xs : List ℕ) → StandsAt (Inside left) c → length (x ∷ xs) ≤ left
    → StandsAt (after_payload left (length (x ∷ xs))) (after_bytes c (x ∷ xs)) × (data_in c (x ∷ xs) ≡ x ∷ xs)
reads_payload c left x xs at fits =
    let start : c ≡ in_data c no_key c.turn left = in_payload c left at in
    let read = zero_reads c c.turn left x xs fits in
    let stands = ends_as c read.0 (left - length (x ∷ xs)) (nat_lt (length (x ∷ xs)) left) at.0 at.2 at.3 (grind (arith, nat_tests)) in (
      subst (λ (t : Standing). StandsAt (after_payload left (length (x ∷ xs))) t) (sym (ap (λ (t : Standing). after_bytes t (x ∷ xs)) start ∙ read.2)) stands,
      ap (λ (t : Standing). data_in t (x ∷ xs)) start ∙ read.1,
    )

says_more : (bytes given more brought : List ℕ) (saying : Saying) → data_in (fresh false) bytes ≡ given
    → StandsAt saying (after_bytes (after_bytes (fresh false) bytes) more) → data_in (after_bytes (fresh false) bytes) more ≡ brought → Says (bytes ++ more) (given ++ brought) saying
says_more bytes given more brought saying said stands brings =
    record {
      said = data-append (fresh false) bytes more ∙ (ap (λ t. data_in (fresh false) bytes ++ t) brings ∙ ap (λ t. t ++ brought) said);
      stands = subst (λ (t : Standing). StandsAt saying t) (sym (after-append (fresh false) bytes more)) stands;
    }

pub says_payload : (bytes given : List ℕ) (left x : ℕ) (xs : List ℕ) → Says bytes given (Inside left) → length (x ∷ xs) ≤ left → Says (bytes ++ x ∷ xs) (given ++ x ∷ xs) (after_payload left (length (x ∷ xs)))
says_payload bytes given left x xs says fits =
    let read = reads_payload (after_bytes (fresh false) bytes) left x xs says.stands fits in
    says_more bytes given (x ∷ xs) (x ∷ xs) (after_payload left (length (x ∷ xs))) says.said read.0 read.1

-- ---- a pong, a ping and a close

says_nothing_more : (bytes given more : List ℕ) (saying : Saying) → Says bytes given Between
    → StandsAt saying (after_bytes (after_bytes (fresh false) bytes) more) → data_in (after_bytes (fresh false) bytes) more ≡ [] → Says (bytes ++ more) given saying
says_nothing_more bytes given more saying says stands brings =
    subst (λ (t : List ℕ). Says (bytes ++ more) t saying) (append-nil given) (says_more bytes given more [] saying says.said stands brings)

-- The header of a control frame is read.
control_begins : (c : Standing) (what : Control) (n : ℕ) → StandsAt Between c → n ≤ 125
    → (after_bytes c (encode_header (control_header what) n) ≡ judged (in_head c (encode_header (control_header what) n)) (control_header what) n) × (data_in c (encode_header (control_header what) n) ≡ [])
control_begins c what n at le = whole_head c (control_header what) n at.1 at.2 (is_header (op.Control what) n (omega arith)) (small_control what n le) (short_enough (op.Control what) n)

not_over : (n : ℕ) → n ≤ 125 → nat_lt 125 n ≡ false
not_over n le = ltb_false 125 n le

pong_whole : (c : Standing) (payload : List ℕ) → StandsAt Between c → length payload ≤ 125
    → StandsAt Between (after_bytes c (encode_frame (control_header control.Pong) payload)) × (data_in c (encode_frame (control_header control.Pong) payload) ≡ [])
pong_whole c [] at le =
    let head = control_begins c control.Pong 0 at (omega arith) in
    let masked : c.masked ≡ false = at.0 in
    let bare : encode_frame (control_header control.Pong) [] ≡ encode_header (control_header control.Pong) 0 = append-nil (encode_header (control_header control.Pong) 0) in
    (rw (bare, head.0, masked) (refl, refl, refl, at.3), rw bare head.1)
pong_whole c (x ∷ xs) at le =
    let n = length (x ∷ xs) in
    let head = control_begins c control.Pong n at le in
    let masked : c.masked ≡ false = at.0 in
    let next : after_bytes c (encode_header (control_header control.Pong) n) ≡ in_pong (record c { masked = false; head = []; key = no_key }) 0 n [] = rw (head.0, masked, not_over n le, eqb_false n 0 (omega arith)) in
    let pong = pong_reads (record c { masked = false; head = []; key = no_key }) 0 [] x xs (omega arith) in
    let all : after_bytes c (encode_frame (control_header control.Pong) (x ∷ xs)) ≡ after_bytes (in_pong (record c { masked = false; head = []; key = no_key }) 0 n []) (x ∷ xs) =
    after-append c (encode_header (control_header control.Pong) n) (x ∷ xs) ∙ ap (λ (t : Standing). after_bytes t (x ∷ xs)) next in (
      subst (λ (t : Standing). StandsAt Between t) (sym all) (pong.0.masked, pong.0.position, pong.0.head, pong.0.begun ∙ at.3),
      data-append c (encode_header (control_header control.Pong) n) (x ∷ xs)
          ∙ (ap (λ (d : List ℕ). d ++ data_in (after_bytes c (encode_header (control_header control.Pong) n)) (x ∷ xs)) head.1 ∙ (ap (λ (t : Standing). data_in t (x ∷ xs)) next ∙ pong.1)),
    )

pub says_pong : (bytes given payload : List ℕ) → Says bytes given Between → length payload ≤ 125 → Says (bytes ++ encode_frame (control_header control.Pong) payload) given Between
says_pong bytes given payload says le =
    let read = pong_whole (after_bytes (fresh false) bytes) payload says.stands le in
    says_nothing_more bytes given (encode_frame (control_header control.Pong) payload) Between says read.0 read.1

ping_whole : (c : Standing) → StandsAt Between c
    → StandsAt Between (after_bytes c (encode_frame (control_header control.Ping) [])) × (data_in c (encode_frame (control_header control.Ping) []) ≡ [])
ping_whole c at =
    let head = control_begins c control.Ping 0 at (omega arith) in
    let masked : c.masked ≡ false = at.0 in
    let bare : encode_frame (control_header control.Ping) [] ≡ encode_header (control_header control.Ping) 0 = append-nil (encode_header (control_header control.Ping) 0) in
    (rw (bare, head.0, masked) (refl, refl, refl, at.3), rw bare head.1)

pub says_ping : (bytes given : List ℕ) → Says bytes given Between → Says (bytes ++ encode_frame (control_header control.Ping) []) given Between
says_ping bytes given says =
    let read = ping_whole (after_bytes (fresh false) bytes) says.stands in
    says_nothing_more bytes given (encode_frame (control_header control.Ping) []) Between says read.0 read.1

close_whole : (c : Standing) (payload : List ℕ) → StandsAt Between c → length payload ≤ 125
    → StandsAt Closed (after_bytes c (encode_frame (control_header control.Close) payload)) × (data_in c (encode_frame (control_header control.Close) payload) ≡ [])
close_whole c [] at le =
    let head = control_begins c control.Close 0 at (omega arith) in
    let masked : c.masked ≡ false = at.0 in
    let bare : encode_frame (control_header control.Close) [] ≡ encode_header (control_header control.Close) 0 = append-nil (encode_header (control_header control.Close) 0) in
    (rw (bare, head.0, masked), rw bare head.1)
close_whole c (x ∷ xs) at le =
    let n = length (x ∷ xs) in
    let head = control_begins c control.Close n at le in
    let masked : c.masked ≡ false = at.0 in
    let next : after_bytes c (encode_header (control_header control.Close) n) ≡ in_close (record c { masked = false; head = []; key = no_key }) 0 n [] = rw (head.0, masked, not_over n le, eqb_false n 0 (omega arith)) in
    let close = close_reads (record c { masked = false; head = []; key = no_key }) 0 [] x xs (omega arith) in
    let all : after_bytes c (encode_frame (control_header control.Close) (x ∷ xs)) ≡ after_bytes (in_close (record c { masked = false; head = []; key = no_key }) 0 n []) (x ∷ xs) =
    after-append c (encode_header (control_header control.Close) n) (x ∷ xs) ∙ ap (λ (t : Standing). after_bytes t (x ∷ xs)) next in (
      ap (λ (t : Standing). t.position) all ∙ close.0,
      data-append c (encode_header (control_header control.Close) n) (x ∷ xs)
          ∙ (ap (λ (d : List ℕ). d ++ data_in (after_bytes c (encode_header (control_header control.Close) n)) (x ∷ xs)) head.1 ∙ (ap (λ (t : Standing). data_in t (x ∷ xs)) next ∙ close.1)),
    )

pub says_close : (bytes given payload : List ℕ) → Says bytes given Between → length payload ≤ 125 → Says (bytes ++ encode_frame (control_header control.Close) payload) given Closed
says_close bytes given payload says le =
    let read = close_whole (after_bytes (fresh false) bytes) payload says.stands le in
    says_nothing_more bytes given (encode_frame (control_header control.Close) payload) Closed says read.0 read.1

-- ---- a whole message

pub says_message : (bytes given payload : List ℕ) → Says bytes given Between → 1 ≤ length payload → length payload < 65536
    → Says (bytes ++ encode_frame binary_header payload) (given ++ payload) Between
says_message bytes given [] says some lt = absurd (omega arith)
says_message bytes given (x ∷ xs) says some lt =
    let n = length (x ∷ xs) in
    let head = says_head bytes given n says some lt in
    let all = says_payload (bytes ++ encode_header binary_header n) given n x xs head (omega arith) in
    subst (λ (b : List ℕ). Says b (given ++ x ∷ xs) Between) (append_assoc bytes (encode_header binary_header n) (x ∷ xs))
    (subst (λ (s : Saying). Says ((bytes ++ encode_header binary_header n) ++ x ∷ xs) (given ++ x ∷ xs) s) (after_all n n (omega arith)) all)

pub says_first : Says [] [] Between
says_first = record { said = refl; stands = (refl, refl, refl, refl) }

-- Two messages and a close frame.
pub says_refusal : (version reason code : List ℕ) → 1 ≤ length version → 1 ≤ length reason → length version < 65536 → length reason < 65536 → length code ≤ 125
    → Says (encode_frame binary_header version ++ encode_frame binary_header reason ++ encode_frame (control_header control.Close) code) (version ++ reason) Closed
says_refusal version reason code v r vl rl cl =
    says_close (encode_frame binary_header version ++ encode_frame binary_header reason) (version ++ reason) code
    (says_message (encode_frame binary_header version) version reason (says_message [] [] version says_first v vl) r rl) cl

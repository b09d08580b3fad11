-- A session that has said a whole handshake has heard one: before its viewer's hello is done it has said less, and
-- nothing behind it. So who finds a handshake in what was recorded knows that the hello is done.
use Rattle.std.proofs.Common.{◌≡◌, ℕ, zero, suc, ◌+◌, ◌-◌, ◌<◌, ◌≤◌, Bool, true, false, cond, List, [], ◌∷◌, ◌++◌, length, Option, Some, None, refl, sym, ap, ◌∙◌, subst, arith, length-append, append-nil}
use Rattle.std.specs.Int.{w16, w32, to_be_bytes}
use Rattle.std.specs.Prelude.{◌&&◌, is_none, is_some, nat_le}
use Rattle.std.proofs.lemmas.Bool.{and_parts, lt-leb}
use Rattle.fault.specs.declared.kinds.Fault.{Fault}
use Rattle.pixel_format.specs.PixelFormat.{format_bytes, host_format}
use Rattle.byte_reading.specs.Reading.{Reading, Done, Faulty, Want, Spells, step, after, fault_of, wants_more, whole_of}
use Rattle.byte_reading.proofs.ReadingLaws.{none_from, prefix_free, wants_from, wants_not_whole}
use Rattle.raster.specs.Size.{IsScreenSize}
use Rattle.raster.specs.Update.{Update}
use Rattle.reflect_core.specs.Sequential.{Begins}
use Rattle.rfb_wire.specs.ClientMessage.{ClientMessage, client_message}
use Rattle.rfb_wire.specs.Handshake.{Joined, host_hello, said_to_viewer, server_init, version, viewer_hello}
use Rattle.rfb_wire.proofs.Greetings.{wants_until}
use Rattle.rfb_wire.proofs.Handshakes.{viewer_is_told}
use Rattle.roles.specs.declared.role.Role.{Role}
use Rattle.roles.specs.Held.{input_for}
use Rattle.viewer_session.specs.Acts.{Act, Cutting, Bytes, Turn, Written, Passed, after_act, after_turn, viewer_after}
use Rattle.viewer_session.specs.Record.{Took}
use Rattle.viewer_session.specs.Session.{with_marks}
use Rattle.viewer_session.specs.Viewer.{Setup, Viewer, after_byte, after_bytes, after_hello, after_reading, is_greeted, marked, new_viewer, out_bytes, viewer_fault}
use Rattle.viewer_session.proofs.Bytes.{keeps_input}
use Rattle.viewer_session.proofs.HelloLaws.{said_grows}
use Rattle.viewer_session.proofs.Parts.{begins_on, begins_same}
use Rattle.viewer_server.specs.Serving.{AllMayBe, MayBe}
use Rattle.played_session.proofs.Hello.{Greets, counts, greets_hello, greets_reading, out_first, said_by}

-- The hello was read so far. As long as it isn't done, nothing was said behind it, and fewer bytes of it count than it
-- has.
record IsGreeting (p : Viewer) : Type 0 where
  greets : Greets p
  early : is_greeted p ≡ false → (p.said_after ≡ []) × (p.said < 14)

greeting_if : (b : Bool) (p q : Viewer) → IsGreeting p → IsGreeting q → IsGreeting (cond b p q)
greeting_if true p q k l = k
greeting_if false p q k l = l

-- ---- bytes

few_by : (hello : Reading (Unit {0})) (heard : List ℕ) (o : Option Fault) (n : ℕ) → hello ≡ after viewer_hello heard → fault_of hello ≡ o → is_some (whole_of hello) ≡ false → n < 14 → (o ≡ None → n + 1 ≡ length heard) → cond (is_some o) n (n + 1) < 14
few_by hello heard (Some fault) n same e open_ lt count = lt
few_by hello heard None n same e open_ lt count =
    let wants : wants_more hello ≡ true = wants_from hello (none_from hello open_) e in
    let long = count refl in
    let less = wants_until heard (omega (arith, lt, long)) (ap wants_more (sym same) ∙ wants) in
    omega (arith, less, long)

greeting_hello : (p : Viewer) (b : ℕ) → wants_more p.hello ≡ true → IsGreeting p → IsGreeting (after_hello p (step p.hello b))
greeting_hello p b wants k =
    let now : Greets (after_hello p (step p.hello b)) = greets_hello p b wants k.greets in
    let before = k.early (wants_not_whole p.hello wants) in
    record {
      greets = now;
      early = λ open_. (
        before.0,
        few_by (step p.hello b) now.heard (fault_of (step p.hello b)) p.said now.hello refl open_ before.1 (λ fine. sym (counts (fault_of (step p.hello b)) p.said fine) ∙ now.said fine),
      );
    }

greeting_reading : (p : Viewer) (r : Reading ClientMessage) → IsGreeting p → IsGreeting (after_reading p r)
greeting_reading p (Done m) k =
    keeps_input IsGreeting
    (λ q input l. let g = l.greets in record { greets = record { heard = g.heard; greet = g.greet; hello = g.hello; said = g.said }; early = l.early })
    (record p { entries = Took (marked p.lost m).0 ∷ p.entries; lost = (marked p.lost m).1; reading = client_message }) (input_for p.role (marked p.lost m).0)
    (let g = k.greets in record { greets = record { heard = g.heard; greet = g.greet; hello = g.hello; said = g.said }; early = k.early })
greeting_reading p (Faulty fault) k = record { greets = greets_reading p (Faulty fault) k.greets; early = k.early }
greeting_reading p (Want more) k = record { greets = greets_reading p (Want more) k.greets; early = k.early }

greeting_byte : (p : Viewer) (b : ℕ) (wants : Bool) → wants_more p.hello ≡ wants → IsGreeting p
    → IsGreeting (cond wants (after_hello p (step p.hello b)) (cond (is_some (viewer_fault p)) p (after_reading p (step p.reading b))))
greeting_byte p b true e k = greeting_hello p b e k
greeting_byte p b false e k = greeting_if (is_some (viewer_fault p)) p (after_reading p (step p.reading b)) k (greeting_reading p (step p.reading b) k)

greeting_unread : (p : Viewer) (unread : List ℕ) → IsGreeting p → IsGreeting (record p { unread = unread })
greeting_unread p unread k = let g = k.greets in record { greets = record { heard = g.heard; greet = g.greet; hello = g.hello; said = g.said }; early = k.early }

greeting_bytes : (p : Viewer) (bs : List ℕ) → IsGreeting p → IsGreeting (after_bytes p bs)
greeting_bytes p [] k = greeting_unread p [] k
greeting_bytes p (b ∷ bs) k =
    greeting_if (is_some p.waiting) (record p { unread = b ∷ bs }) (after_bytes (after_byte p b) bs) (greeting_unread p (b ∷ bs) k) (greeting_bytes (after_byte p b) bs (greeting_byte p b (wants_more p.hello) refl k))

-- ---- acts

greeting_turn : (s : Setup) (us : List Update) (p : Viewer) (looked : ℕ) (cut : Option Cutting) → is_greeted p ≡ true → IsGreeting p → IsGreeting (after_turn s us looked cut p)
greeting_turn s us p looked None greeted k =
    let g = k.greets in record { greets = record { heard = g.heard; greet = g.greet; hello = g.hello; said = g.said }; early = λ open_. absurd (let both : true ≡ false = sym greeted ∙ open_ in cc) }
greeting_turn s us p looked (Some cut) greeted k =
    let g = k.greets in record { greets = record { heard = g.heard; greet = g.greet; hello = g.hello; said = g.said }; early = λ open_. absurd (let both : true ≡ false = sym greeted ∙ open_ in cc) }

greeting_act : (s : Setup) (us : List Update) (p : Viewer) (act : Act) → MayBe s us p act → IsGreeting p → IsGreeting (after_act s us act p)
greeting_act s us p (Bytes marks bytes) may k =
    let g = k.greets in greeting_bytes (with_marks marks p) bytes (record { greets = record { heard = g.heard; greet = g.greet; hello = g.hello; said = g.said }; early = k.early })
greeting_act s us p (Turn looked cut) may k =
    let greeted : is_greeted p ≡ true = (and_parts (is_greeted p) (is_none (viewer_fault p)) (and_parts (nat_le (length (out_bytes s p)) p.written) (is_greeted p && is_none (viewer_fault p)) may.0).1).0 in
    greeting_turn s us p looked cut greeted k
greeting_act s us p (Written count) may k = let g = k.greets in record { greets = record { heard = g.heard; greet = g.greet; hello = g.hello; said = g.said }; early = k.early }
greeting_act s us p Passed may k = let g = k.greets in record { greets = record { heard = g.heard; greet = g.greet; hello = g.hello; said = g.said }; early = k.early }

greeting_all : (s : Setup) (us : List Update) (p : Viewer) (acts : List Act) → AllMayBe s us p acts → IsGreeting p → IsGreeting (viewer_after s us p acts)
greeting_all s us p [] may k = k
greeting_all s us p (act ∷ acts) may k = greeting_act s us (viewer_after s us p acts) act may.1 (greeting_all s us p acts may.0 k)

-- ---- less than a handshake

-- What is said of the hello after fewer bytes begins what is said after all of them.
said_on : (w h : ℕ) (name : List ℕ) (n k : ℕ) → Begins (said_to_viewer w h name n) (said_to_viewer w h name (n + k))
said_on w h name n zero =
    let same : n ≡ n + 0 = omega arith in
    subst (λ m. Begins (said_to_viewer w h name n) (said_to_viewer w h name m)) same (begins_same (said_to_viewer w h name n))
said_on w h name n (suc k) =
    let next : (n + k) + 1 ≡ n + suc k = omega arith in
    begins_on (said_to_viewer w h name n) (said_to_viewer w h name (n + k)) (said_to_viewer w h name (n + suc k)) (said_on w h name n k)
    (subst (λ m. Begins (said_to_viewer w h name (n + k)) (said_to_viewer w h name m)) next (said_grows w h name (n + k)))

pub few_if : (b : Bool) (xs : List ℕ) → length (cond b xs []) ≤ length xs
few_if true xs = omega arith
few_if false xs = omega arith

few_in_all : (a b c : List ℕ) → length a ≤ 12 → length b ≤ 2 → length c ≤ 4 → length (a ++ b ++ c ++ []) ≤ 18
few_in_all a b c la lb lc = omega (arith, length-append (a ++ b ++ c) [], length-append (a ++ b) c, length-append a b, la, lb, lc)

less_said : (w h : ℕ) (name : List ℕ) (n : ℕ) → n < 14 → length (said_to_viewer w h name n) ≤ 18
less_said w h name n lt =
    let first : List ℕ = cond (nat_le 12 n) (1 ∷ 1 ∷ []) [] in
    let second : List ℕ = cond (nat_le 13 n) (0 ∷ 0 ∷ 0 ∷ 0 ∷ []) [] in
    subst (λ c. length (said_by w h name (nat_le 12 n) (nat_le 13 n) c) ≤ 18) (sym (lt-leb 14 n lt))
    (few_in_all version first second (omega arith) (few_if (nat_le 12 n) (1 ∷ 1 ∷ [])) (few_if (nat_le 13 n) (0 ∷ 0 ∷ 0 ∷ 0 ∷ [])))

more_in_all : (a b c d e : List ℕ) → length c ≡ 16 → 16 ≤ length (a ++ b ++ c ++ d ++ e)
more_in_all a b c d e lc = omega (arith, length-append (a ++ b ++ c ++ d) e, length-append (a ++ b ++ c) d, length-append (a ++ b) c, lc)

all_long : (w h : ℕ) (name : List ℕ) → 18 < length (said_to_viewer w h name 14)
all_long w h name =
    let front : List ℕ = version ++ (1 ∷ 1 ∷ []) ++ (0 ∷ 0 ∷ 0 ∷ 0 ∷ []) in
    let init : 16 ≤ length (server_init w h name) = more_in_all (to_be_bytes w16 w) (to_be_bytes w16 h) (format_bytes host_format) (to_be_bytes w32 (length name)) name refl in
    let parts : length (said_to_viewer w h name 14) ≡ length (front ++ server_init w h name) = refl in
    let eighteen : length front ≡ 18 = refl in
    omega (arith, parts, init, eighteen, length-append front (server_init w h name))

-- Before the hello is done nothing else is said, and that begins what is said in all of it.
early_out : (s : Setup) (p : Viewer) → is_greeted p ≡ false → IsGreeting p → out_bytes s p ≡ said_to_viewer s.w s.h s.name p.said
early_out s p e k =
    let said : List ℕ = said_to_viewer s.w s.h s.name p.said in
    ap (λ b. cond b said [] ++ p.said_after) k.greets.greet ∙ (ap (λ t. said ++ t) (k.early e).0 ∙ append-nil said)

early_begins : (s : Setup) (p : Viewer) → is_greeted p ≡ false → IsGreeting p → Begins (said_to_viewer s.w s.h s.name p.said) (said_to_viewer s.w s.h s.name 14)
early_begins s p e k =
    let few = (k.early e).1 in
    let n : ℕ = 14 - p.said in
    let sum : p.said + n ≡ 14 = omega (arith, few) in
    subst (λ m. Begins (said_to_viewer s.w s.h s.name p.said) (said_to_viewer s.w s.h s.name m)) sum (said_on s.w s.h s.name p.said n)

-- ---- who has said a handshake

greeted_by : (s : Setup) (p : Viewer) (hello : List ℕ) (joined : Joined) (done : Bool) → is_greeted p ≡ done → IsScreenSize s.w s.h → length s.name ≤ 255 → IsGreeting p → Spells (host_hello None) hello joined → Begins hello (out_bytes s p) → done ≡ true
greeted_by s p hello joined true e size short k spelled begins = refl
greeted_by s p hello joined false e size short k spelled begins =
    absurd (
    let few = (k.early e).1 in
    let said : List ℕ = said_to_viewer s.w s.h s.name p.said in
    let all : List ℕ = said_to_viewer s.w s.h s.name 14 in
    let in_it : Begins hello said = subst (Begins hello) (early_out s p e k) begins in
    let in_all : Begins hello all = begins_on hello said all in_it (early_begins s p e k) in
    let one = prefix_free (host_hello None) hello all in_all.0 [] joined (record { w = s.w; h = s.h; name = s.name }) spelled
    (viewer_is_told None s.w s.h s.name size.wide.0 size.wide.1 size.high.0 size.high.1 short) (sym in_all.1 ∙ sym (append-nil all)) in
    let long : length said ≡ length hello + length in_it.0 = ap length in_it.1 ∙ length-append hello in_it.0 in
    let same : length hello ≡ length all = ap length one.0 in
    omega (arith, less_said s.w s.h s.name p.said few, all_long s.w s.h s.name, long, same)
    )

greeting_after : (s : Setup) (us : List Update) (role : Role) (acts : List Act) → AllMayBe s us (new_viewer role true) acts → IsGreeting (viewer_after s us (new_viewer role true) acts)
greeting_after s us role acts may =
    greeting_all s us (new_viewer role true) acts may (record { greets = record { heard = []; greet = refl; hello = refl; said = λ fine. refl }; early = λ open_. (refl, omega arith) })

pub is_done : (s : Setup) (us : List Update) (role : Role) (acts : List Act) (hello : List ℕ) (joined : Joined) → IsScreenSize s.w s.h → length s.name ≤ 255 → AllMayBe s us (new_viewer role true) acts → Spells (host_hello None) hello joined
    → Begins hello (out_bytes s (viewer_after s us (new_viewer role true) acts)) → is_greeted (viewer_after s us (new_viewer role true) acts) ≡ true
is_done s us role acts hello joined size short may spelled begins =
    let p : Viewer = viewer_after s us (new_viewer role true) acts in
    greeted_by s p hello joined (is_greeted p) refl size short (greeting_after s us role acts may) spelled begins

-- ---- how all begins that is said

opens_by : (s : Setup) (p : Viewer) (done : Bool) → is_greeted p ≡ done → IsGreeting p → (done ≡ true → out_bytes s p ≡ said_to_viewer s.w s.h s.name 14 ++ p.said_after)
    → (later : List ℕ) × (Begins (out_bytes s p) (said_to_viewer s.w s.h s.name 14 ++ later))
opens_by s p true e k whole = (p.said_after, subst (Begins (out_bytes s p)) (whole refl) (begins_same (out_bytes s p)))
opens_by s p false e k whole =
    let said : List ℕ = said_to_viewer s.w s.h s.name p.said in
    let all : List ℕ = said_to_viewer s.w s.h s.name 14 in
    ([], subst (λ t. Begins t (all ++ [])) (sym (early_out s p e k)) (begins_on said all (all ++ []) (early_begins s p e k) ([], refl)))

-- All that is said begins as a whole handshake does, or is a beginning of one.
pub opens : (s : Setup) (us : List Update) (role : Role) (acts : List Act) → AllMayBe s us (new_viewer role true) acts
    → (later : List ℕ) × (Begins (out_bytes s (viewer_after s us (new_viewer role true) acts)) (said_to_viewer s.w s.h s.name 14 ++ later))
opens s us role acts may =
    let p : Viewer = viewer_after s us (new_viewer role true) acts in
    opens_by s p (is_greeted p) refl (greeting_after s us role acts may) (out_first s us role acts)

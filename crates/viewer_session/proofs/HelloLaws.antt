-- A viewer's hello in its session, byte by byte. A session may begin before its handshake.
use Rattle.std.proofs.Common.{◌≡◌, ℕ, zero, suc, ◌+◌, ◌<◌, ◌≤◌, Bool, true, false, List, [], ◌∷◌, ◌++◌, length, take, drop, get_or, Option, Some, None, refl, sym, ap, subst, ◌∙◌, arith, length-append, append-nil, drop-cons, add-one}
use Rattle.std.specs.Prelude.{is_some, is_none, nat_le, if◌then◌else◌}
use Rattle.std.proofs.lemmas.Bool.Decides.{nat_tests}
use Rattle.std.proofs.lemmas.List.{drop-append-le}
use Rattle.std.proofs.Math.Seq.{drop-append_seam}
use Rattle.fault.specs.declared.kinds.Fault.{Fault}
use Rattle.byte_reading.specs.Reading.{Reading, Done, Faulty, Want, step, taken, whole_of, fault_of, wants_more}
use Rattle.byte_reading.proofs.ReadingLaws.{taken-cons, taken-nil}
use Rattle.rfb_wire.specs.Greeting.{Greeting, ahead, to_send}
use Rattle.rfb_wire.specs.Handshake.{version, server_init, said_to_viewer}
use Rattle.rfb_wire.proofs.Greetings.{greeting_steps}
use Rattle.roles.specs.Allowed.{Input}
use Rattle.roles.specs.declared.role.Role.{Role}
use Rattle.viewer_session.specs.Outgoing.{Sending}
use Rattle.viewer_session.specs.Viewer.{Setup, Viewer, out_bytes, viewer_fault, after_byte, after_bytes, after_hello, after_reading}
use Rattle.viewer_session.specs.Session.{State, Serves, Relays, Stands, Greets, GreetsAs, IsSpoken, IsBegun, IsGreeting, IsSaid, HasFed, IsFeeding, hello_of, hello_fault, is_greeted}
use Rattle.viewer_session.proofs.Feeding.{past_hello}

-- ---- how the hello goes on

hello_is : (s : Setup) (o : Option Greeting) (greet : Bool) (hello : Reading (Unit {0})) (said : ℕ) (said_after : List ℕ) → Greets s o greet hello said said_after → hello ≡ hello_of o
hello_is s None greet hello said said_after k = k.1
hello_is s (Some g) greet hello said said_after k = k.goes_on

pub hello_served : (s : Setup) (st : State) (p : Viewer) → Serves s st p → p.hello ≡ hello_of st.greeting
hello_served s st p k = hello_is s st.greeting p.greet p.hello p.said p.said_after k.greets

done_is : (r : Reading (Unit {0})) → is_some (whole_of r) ≡ true → r ≡ Done tt
done_is (Done x) e = refl
done_is (Faulty f) e = absurd cc
done_is (Want more) e = absurd cc

-- A hello that is done is passed.
pub past : (s : Setup) (st : State) (p : Viewer) → Serves s st p → is_greeted st ≡ true → p.waiting ≡ None → p ≡ past_hello p
past s st p k greeted none =
    let done : p.hello ≡ Done tt = hello_served s st p k ∙ done_is (hello_of st.greeting) greeted in
    let read : p.unread ≡ [] = ap (λ (q : Viewer). q.unread) k.rests in
    ap (λ (bs : List ℕ). record p { unread = bs }) read
    ∙ (ap (λ (r : Reading (Unit {0})). record p { unread = []; hello = r }) done ∙ ap (λ (o : Option Input). record p { unread = []; hello = Done tt; waiting = o }) none)

-- ---- what is said

abbrev implied : Bool → Bool → Type 0
implied a b = a ≡ true → b ≡ true

abbrev said_by : ℕ → ℕ → List ℕ → Bool → Bool → Bool → List ℕ
said_by w h name a b c =
    version ++ (if a then 1 ∷ 1 ∷ [] else []) ++ (if b then 0 ∷ 0 ∷ 0 ∷ 0 ∷ [] else []) ++ (if c then server_init w h name else [])

-- One byte more adds to it, at most.
abbrev Grows : List ℕ → List ℕ → Type 0
Grows before now = (more : List ℕ) × (now ≡ before ++ more)

grows_by : (w h : ℕ) (name : List ℕ) (a b c d e f : Bool) → implied b a → implied c b → implied a d → implied b e → implied c f → Grows (said_by w h name a b c) (said_by w h name d e f)
grows_by w h name false false false d e f ba cb ad be cf =
    ((if d then 1 ∷ 1 ∷ [] else []) ++ (if e then 0 ∷ 0 ∷ 0 ∷ 0 ∷ [] else []) ++ (if f then server_init w h name else []), refl)
grows_by w h name true false false true e f ba cb ad be cf = ((if e then 0 ∷ 0 ∷ 0 ∷ 0 ∷ [] else []) ++ (if f then server_init w h name else []), refl)
grows_by w h name true false false false e f ba cb ad be cf = absurd (let no : false ≡ true = ad refl in cc)
grows_by w h name true true false true true f ba cb ad be cf = ((if f then server_init w h name else []), refl)
grows_by w h name true true false d false f ba cb ad be cf = absurd (let no : false ≡ true = be refl in cc)
grows_by w h name true true false false true f ba cb ad be cf = absurd (let no : false ≡ true = ad refl in cc)
grows_by w h name true true true true true true ba cb ad be cf = ([], sym (append-nil (said_by w h name true true true)))
grows_by w h name true true true d e false ba cb ad be cf = absurd (let no : false ≡ true = cf refl in cc)
grows_by w h name true true true d false true ba cb ad be cf = absurd (let no : false ≡ true = be refl in cc)
grows_by w h name true true true false true true ba cb ad be cf = absurd (let no : false ≡ true = ad refl in cc)
grows_by w h name a false true d e f ba cb ad be cf = absurd (let no : false ≡ true = cb refl in cc)
grows_by w h name false true c d e f ba cb ad be cf = absurd (let no : false ≡ true = ba refl in cc)

at_least : (n m : ℕ) → n ≤ m → nat_le n m ≡ true
at_least n m le = grind (arith, nat_tests)

from_test : (n m : ℕ) → nat_le n m ≡ true → n ≤ m
from_test n m e = grind (arith, nat_tests)

pub said_grows : (w h : ℕ) (name : List ℕ) (n : ℕ) → Grows (said_to_viewer w h name n) (said_to_viewer w h name (n + 1))
said_grows w h name n =
    grows_by w h name (nat_le 12 n) (nat_le 13 n) (nat_le 14 n) (nat_le 12 (n + 1)) (nat_le 13 (n + 1)) (nat_le 14 (n + 1))
    (λ e. at_least 12 n (omega (arith, from_test 13 n e)))
    (λ e. at_least 13 n (omega (arith, from_test 14 n e)))
    (λ e. at_least 12 (n + 1) (omega (arith, from_test 12 n e)))
    (λ e. at_least 13 (n + 1) (omega (arith, from_test 13 n e)))
    (λ e. at_least 14 (n + 1) (omega (arith, from_test 14 n e)))

fits_by : (w h : ℕ) (name : List ℕ) (a b c : Bool) → length (said_by w h name a b c) ≤ 42 + length name
fits_by w h name false false false = omega arith
fits_by w h name false false true = omega arith
fits_by w h name false true false = omega arith
fits_by w h name false true true = omega arith
fits_by w h name true false false = omega arith
fits_by w h name true false true = omega arith
fits_by w h name true true false = omega arith
fits_by w h name true true true = omega arith

pub said_fits : (w h : ℕ) (name : List ℕ) (n : ℕ) → length (said_to_viewer w h name n) ≤ 42 + length name
said_fits w h name n = fits_by w h name (nat_le 12 n) (nat_le 13 n) (nat_le 14 n)

-- ---- one byte of it

-- What has come with one byte more, and what was said then.
abbrev pub with_byte : Greeting → ℕ → Greeting
with_byte g b = record g { begun = g.begun ++ b ∷ [] }

abbrev pub with_said : Greeting → Greeting
with_said g = record g { sent = g.sent + length (to_send g) }

-- A hello that wants a byte takes one.
pub takes_byte : (g : Greeting) (b : ℕ) → wants_more (ahead g) ≡ true → record g { begun = g.begun ++ take (taken (ahead g) (b ∷ [])) (b ∷ []) } ≡ with_byte g b
takes_byte g b wants =
    let one : taken (ahead g) (b ∷ []) ≡ 1 = omega (arith, taken-cons (ahead g) b [] wants, taken-nil (step (ahead g) b)) in
    ap (λ n. record g { begun = g.begun ++ take n (b ∷ []) }) one

some_is_none : {A : Type 0} (x : A) → Some x ≡ None → ⊥
some_is_none x e = cc

fine_while_wanted : (r : Reading (Unit {0})) → wants_more r ≡ true → fault_of r ≡ None
fine_while_wanted (Done x) e = absurd cc
fine_while_wanted (Faulty f) e = absurd cc
fine_while_wanted (Want more) e = refl

-- What is to be said to the byte, as the definitions' viewer takes it.
says : (g : Greeting) (b : ℕ) (o : Option Fault) → fault_of (ahead (with_byte g b)) ≡ o
    → to_send (with_byte g b) ≡ (if is_none o then drop g.sent (said_to_viewer g.w g.h g.name (length (g.begun ++ b ∷ []))) else [])
says g b o e = ap (λ q. if is_none q then drop g.sent (said_to_viewer g.w g.h g.name (length (g.begun ++ b ∷ []))) else []) e

one_more : (xs : List ℕ) (b : ℕ) → length (xs ++ b ∷ []) ≡ length xs + 1
one_more xs b = length-append xs (b ∷ [])

-- It is what was said before, and something after it.
pub said_further : (g : Greeting) (b : ℕ) → g.sent ≡ length (said_to_viewer g.w g.h g.name (length g.begun))
    → (drop g.sent (said_to_viewer g.w g.h g.name (length (g.begun ++ b ∷ [])))) ≡ (said_grows g.w g.h g.name (length g.begun)).0
said_further g b sent =
    let before : List ℕ = said_to_viewer g.w g.h g.name (length g.begun) in
    let grows = said_grows g.w g.h g.name (length g.begun) in
    ap (λ n. drop g.sent (said_to_viewer g.w g.h g.name n)) (one_more g.begun b) ∙ (ap (drop g.sent) grows.1 ∙ (ap (λ n. drop n (before ++ grows.0)) sent ∙ drop-append_seam before grows.0))

-- Then all that is to be said by now was put out again.
said_on : (g : Greeting) (b : ℕ) (out new : Sending) (o : Option Fault) → fault_of (ahead (with_byte g b)) ≡ o → wants_more (ahead (with_byte g b)) ≡ true → IsSaid g out
    → new.filled ≡ out.filled + length (to_send (with_byte g b)) → new.unsent ≡ new.piece → IsSaid (with_said (with_byte g b)) new
said_on g b out new None e wants k filled alone =
    let more : List ℕ = (said_grows g.w g.h g.name (length g.begun)).0 in
    let say : to_send (with_byte g b) ≡ more = says g b None e ∙ said_further g b k.said in
    let all : length (said_to_viewer g.w g.h g.name (length (g.begun ++ b ∷ []))) ≡ length (said_to_viewer g.w g.h g.name (length g.begun)) + length more =
    ap (λ n. length (said_to_viewer g.w g.h g.name n)) (one_more g.begun b)
    ∙ (ap length (said_grows g.w g.h g.name (length g.begun)).1 ∙ length-append (said_to_viewer g.w g.h g.name (length g.begun)) more) in
    let count : length (to_send (with_byte g b)) ≡ length more = ap length say in
    record { said = omega (arith, k.said, all, count); filled = omega (arith, k.filled, filled); alone = alone }
said_on g b out new (Some f) e wants k filled alone = absurd (some_is_none f (sym e ∙ fine_while_wanted (ahead (with_byte g b)) wants))

room_on : (g : Greeting) (b : ℕ) (out : Sending) (o : Option Fault) → fault_of (ahead (with_byte g b)) ≡ o → length g.name ≤ 255 → IsSaid g out
    → out.filled + length (to_send (with_byte g b)) ≤ 65544
room_on g b out None e short k =
    let more : List ℕ = (said_grows g.w g.h g.name (length g.begun)).0 in
    let count : length (to_send (with_byte g b)) ≡ length more = ap length (says g b None e ∙ said_further g b k.said) in
    let all : length (said_to_viewer g.w g.h g.name (length g.begun + 1)) ≡ length (said_to_viewer g.w g.h g.name (length g.begun)) + length more =
    ap length (said_grows g.w g.h g.name (length g.begun)).1 ∙ length-append (said_to_viewer g.w g.h g.name (length g.begun)) more in
    omega (arith, said_fits g.w g.h g.name (length g.begun + 1), all, count, k.said, k.filled)
room_on g b out (Some f) e short k =
    let none : length (to_send (with_byte g b)) ≡ 0 = ap length (says g b (Some f) e) in
    let some : length (said_to_viewer g.w g.h g.name (length g.begun)) ≤ 42 + length g.name = said_fits g.w g.h g.name (length g.begun) in
    omega (arith, k.said, k.filled)

-- There is room for what is to be said to a byte.
pub has_room : (g : Greeting) (b : ℕ) (out : Sending) → wants_more (ahead g) ≡ true → IsSpoken g out → out.filled + length (to_send (with_byte g b)) ≤ 65544
has_room g b out wants k = room_on g b out (fault_of (ahead (with_byte g b))) refl k.short (k.said wants)

pub spoken_on : (g : Greeting) (b : ℕ) (out new : Sending) → wants_more (ahead g) ≡ true → IsSpoken g out → new.filled ≡ out.filled + length (to_send (with_byte g b)) → new.unsent ≡ new.piece
    → IsSpoken (with_said (with_byte g b)) new
spoken_on g b out new wants k filled alone =
    record { short = k.short; said = λ again. said_on g b out new (fault_of (ahead (with_byte g b))) refl again (k.said wants) filled alone }

-- ---- the viewer that takes it

takes_it : (s : Setup) (p : Viewer) (b : ℕ) → wants_more p.hello ≡ true → after_byte p b ≡ after_hello p (step p.hello b)
takes_it s p b wants = ap (λ w. if w then after_hello p (step p.hello b) else (if is_some (viewer_fault p) then p else after_reading p (step p.reading b))) wants

-- Only the hello and what is said in it went on.
serves_hello : (s : Setup) (st : State) (p : Viewer) (g : Greeting) (hello : Reading (Unit {0})) (said : ℕ) (piece unsent : List ℕ) → Serves s st p → GreetsAs s g p.greet hello said p.said_after
    → p.written ≤ length (out_bytes s (record p { said = said })) → unsent ≡ drop p.written (out_bytes s (record p { said = said }))
    → Serves s (record st { greeting = Some g; piece = piece; unsent = unsent }) (record p { hello = hello; said = said })
serves_hello s st p g hello said piece unsent k greets written left =
    record {
      width = k.width;
      height = k.height;
      form = k.form;
      host = k.host;
      role = k.role;
      rests = ap (λ (q : Viewer). record q { hello = hello; said = said }) k.rests;
      greets = greets;
      reading = k.reading;
      taken = k.taken;
      short = k.short;
      keeps = record { asked = k.keeps.asked; have = k.keeps.have; format = k.keeps.format; choice = k.keeps.choice; told = k.keeps.told };
      written = written;
      unsent = left;
      begun = k.begun;
    }

-- While more of the hello is to come, it is all that the viewer is sent.
out_is : (s : Setup) (p : Viewer) (n : ℕ) → p.greet ≡ true → p.said_after ≡ [] → out_bytes s (record p { said = n }) ≡ said_to_viewer s.w s.h s.name n
out_is s p n greets none =
    let said : List ℕ = said_to_viewer s.w s.h s.name n in
    ap (λ b. (if b then said else []) ++ p.said_after) greets ∙ (ap (λ t. said ++ t) none ∙ append-nil said)

-- What the hello is to send to a byte is what the viewer is then sent.
says_as : (s : Setup) (p : Viewer) (g : Greeting) (b : ℕ) → GreetsAs s g p.greet p.hello p.said p.said_after → p.said ≡ length g.begun → g.sent ≡ length (said_to_viewer g.w g.h g.name (length g.begun))
    → drop g.sent (said_to_viewer g.w g.h g.name (length (g.begun ++ b ∷ []))) ≡ (said_grows s.w s.h s.name p.said).0
says_as s p g b greets said sent =
    said_further g b sent
    ∙ (ap (λ n. (said_grows g.w g.h g.name n).0) (sym said)
    ∙ (ap (λ w. (said_grows w g.h g.name p.said).0) greets.w
    ∙ (ap (λ h. (said_grows s.w h g.name p.said).0) greets.h
    ∙ ap (λ name. (said_grows s.w s.h name p.said).0) greets.name)))

-- A fault is answered by nothing, any other byte by what comes after.
serves_byte_by : (s : Setup) (st : State) (p : Viewer) (g : Greeting) (b : ℕ) (o : Option Fault) (piece : List ℕ) → Serves s st p → GreetsAs s g p.greet p.hello p.said p.said_after → wants_more p.hello ≡ true
    → g.sent ≡ length (said_to_viewer g.w g.h g.name (length g.begun)) → step p.hello b ≡ ahead (with_byte g b) → fault_of (ahead (with_byte g b)) ≡ o
    → Serves s (record st { greeting = Some (with_said (with_byte g b)); piece = piece; unsent = st.unsent ++ to_send (with_byte g b) })
    (record p { hello = step p.hello b; said = if is_some o then p.said else p.said + 1 })
serves_byte_by s st p g b (Some f) piece k greets wants sent steps e =
    let nothing : to_send (with_byte g b) ≡ [] = says g b (Some f) e in
    serves_hello s st p (with_said (with_byte g b)) (step p.hello b) p.said piece (st.unsent ++ to_send (with_byte g b)) k
    (record {
      w = greets.w;
      h = greets.h;
      name = greets.name;
      greets = greets.greets;
      goes_on = steps;
      taken = λ again. absurd (some_is_none f (sym e ∙ (ap fault_of (sym steps) ∙ fine_while_wanted (step p.hello b) again)));
    })
    k.written
    (ap (λ t. st.unsent ++ t) nothing ∙ (append-nil st.unsent ∙ k.unsent))
serves_byte_by s st p g b None piece k greets wants sent steps e =
    let before : List ℕ = said_to_viewer s.w s.h s.name p.said in
    let grows = said_grows s.w s.h s.name p.said in
    let so_far : (p.said ≡ length g.begun) × (p.said_after ≡ []) = greets.taken wants in
    let was : out_bytes s p ≡ before = out_is s p p.said greets.greets so_far.1 in
    let is : out_bytes s (record p { said = p.said + 1 }) ≡ before ++ grows.0 = out_is s p (p.said + 1) greets.greets so_far.1 ∙ grows.1 in
    let within : p.written ≤ length before = subst (λ t. p.written ≤ length t) was k.written in
    let say : to_send (with_byte g b) ≡ grows.0 = says g b None e ∙ says_as s p g b greets so_far.0 sent in
    let left : st.unsent ++ to_send (with_byte g b) ≡ drop p.written (out_bytes s (record p { said = p.said + 1 })) =
    ap (λ t. t ++ to_send (with_byte g b)) (k.unsent ∙ ap (drop p.written) was)
    ∙ (ap (λ t. drop p.written before ++ t) say ∙ (sym (drop-append-le p.written before grows.0 within) ∙ ap (drop p.written) (sym is))) in
    serves_hello s st p (with_said (with_byte g b)) (step p.hello b) (p.said + 1) piece (st.unsent ++ to_send (with_byte g b)) k
    (record {
      w = greets.w;
      h = greets.h;
      name = greets.name;
      greets = greets.greets;
      goes_on = steps;
      taken = λ again. (ap (λ n. n + 1) so_far.0 ∙ sym (one_more g.begun b), so_far.1);
    })
    (omega (arith, within, ap length is, length-append before grows.0))
    left

-- The viewer as the session's hello takes it.
takes_with : (p : Viewer) (r : Reading (Unit {0})) (o : Option Fault) → fault_of r ≡ o → after_hello p r ≡ record p { hello = r; said = if is_some o then p.said else p.said + 1 }
takes_with p r o e = ap (λ q. record p { hello = r; said = if is_some q then p.said else p.said + 1 }) e

pub serves_byte : (s : Setup) (st : State) (p : Viewer) (g : Greeting) (b : ℕ) (piece : List ℕ) → st.greeting ≡ Some g → wants_more (ahead g) ≡ true → g.sent ≡ length (said_to_viewer g.w g.h g.name (length g.begun)) → Serves s st p
    → Serves s (record st { greeting = Some (with_said (with_byte g b)); piece = piece; unsent = st.unsent ++ to_send (with_byte g b) }) (after_byte p b)
serves_byte s st p g b piece is wants sent k =
    let greets : GreetsAs s g p.greet p.hello p.said p.said_after = subst (λ (o : Option Greeting). Greets s o p.greet p.hello p.said p.said_after) is k.greets in
    let wanted : wants_more p.hello ≡ true = ap wants_more greets.goes_on ∙ wants in
    let steps : step p.hello b ≡ ahead (with_byte g b) = ap (λ r. step r b) greets.goes_on ∙ sym (greeting_steps g b) in
    let same : after_byte p b ≡ record p { hello = step p.hello b; said = if is_some (fault_of (ahead (with_byte g b))) then p.said else p.said + 1 } =
    takes_it s p b wanted ∙ takes_with p (step p.hello b) (fault_of (ahead (with_byte g b))) (ap fault_of steps) in
    subst (λ q. Serves s (record st { greeting = Some (with_said (with_byte g b)); piece = piece; unsent = st.unsent ++ to_send (with_byte g b) }) q) (sym same)
    (serves_byte_by s st p g b (fault_of (ahead (with_byte g b))) piece k greets wanted sent steps refl)

-- ---- byte after byte

-- A byte of the hello leaves the input as it is.
pub stands_byte : (s : Setup) (st : State) (p : Viewer) (g : Greeting) (b : ℕ) (piece : List ℕ) → st.greeting ≡ Some g → wants_more (ahead g) ≡ true → g.sent ≡ length (said_to_viewer g.w g.h g.name (length g.begun)) → Stands s st p
    → Stands s (record st { greeting = Some (with_said (with_byte g b)); piece = piece; unsent = st.unsent ++ to_send (with_byte g b) }) (after_byte p b)
stands_byte s st p g b piece is wants sent k =
    let new : State = record st { greeting = Some (with_said (with_byte g b)); piece = piece; unsent = st.unsent ++ to_send (with_byte g b) } in
    let wanted : wants_more p.hello ≡ true = ap wants_more (hello_served s st p k.serves ∙ ap hello_of is) ∙ wants in
    let same : after_byte p b ≡ after_hello p (step p.hello b) = takes_it s p b wanted in
    record {
      serves = serves_byte s st p g b piece is wants sent k.serves;
      relays = subst (λ (q : Viewer). Relays new q) (sym same) (record { waiting = k.relays.waiting; keys = k.relays.keys; held = k.relays.held });
    }

waits_for_none : (s : Setup) (q : Viewer) (b : ℕ) (bs : List ℕ) → q.waiting ≡ None → after_bytes q (b ∷ bs) ≡ after_bytes (after_byte q b) bs
waits_for_none s q b bs none = ap (λ (o : Option Input). if is_some o then record q { unread = b ∷ bs } else after_bytes (after_byte q b) bs) none

-- The marks of texts are for what comes after the hello.
marked_on : (s : Setup) (q : Viewer) (b : ℕ) (more : List Bool) → wants_more q.hello ≡ true → after_byte (record q { lost = more }) b ≡ record (after_byte q b) { lost = more }
marked_on s q b more wants = takes_it s (record q { lost = more }) b wants ∙ ap (λ (t : Viewer). record t { lost = more }) (sym (takes_it s q b wants))

pub feeding_byte : (old now new : State) (piece : List ℕ) (used : ℕ) → IsFeeding old now [] piece (drop used piece) → used < length piece → wants_more (hello_of now.greeting) ≡ true → now.waiting ≡ None
    → ((s : Setup) (p : Viewer) → Stands s now p → Stands s new (after_byte p (get_or piece used 0))) → IsFeeding old new [] piece (drop (used + 1) piece)
feeding_byte old now new piece used h lt wants none takes = λ s p more k.
    let f : HasFed s (record p { lost = more }) now more piece (drop used piece) = h s p more k in
    let q : Viewer = f.viewer in
    let b : ℕ = get_or piece used 0 in
    let wanted : wants_more q.hello ≡ true = ap wants_more (hello_served s now q f.stands.serves) ∙ wants in
    record {
      viewer = after_byte q b;
      stands = takes s q f.stands;
      rest = f.rest
          ∙ (ap (after_bytes (record q { lost = more })) (drop-cons piece used 0 lt)
          ∙ (waits_for_none s (record q { lost = more }) b (drop (suc used) piece) (f.stands.relays.waiting ∙ none)
          ∙ (ap (λ t. after_bytes t (drop (suc used) piece)) (marked_on s q b more wanted) ∙ ap (λ n. after_bytes (record (after_byte q b) { lost = more }) (drop n piece)) (sym (add-one used)))));
    }

at_fault : (r : Reading (Unit {0})) (f : Fault) → fault_of r ≡ Some f → r ≡ Faulty f
at_fault (Done x) f e = absurd cc
at_fault (Faulty g) f e = let same : g ≡ f = cc in ap Faulty same
at_fault (Want more) f e = absurd cc

-- After a fault of the hello nothing changes.
stays_at : (s : Setup) (p : Viewer) (f : Fault) (bs : List ℕ) → after_bytes (record p { hello = Faulty f; waiting = None }) bs ≡ record p { hello = Faulty f; waiting = None; unread = [] }
stays_at s p f [] = refl
stays_at s p f (b ∷ bs) = stays_at s p f bs

pub feeding_hello_faults : (old new : State) (piece left : List ℕ) (fault : Fault) → IsFeeding old new [] piece left → hello_fault new ≡ Some fault → new.waiting ≡ None → IsFeeding old new [] piece []
feeding_hello_faults old new piece left fault h e none = λ s p more k.
    let f : HasFed s (record p { lost = more }) new more piece left = h s p more k in
    let q : Viewer = f.viewer in
    let hello : q.hello ≡ Faulty fault = hello_served s new q f.stands.serves ∙ at_fault (hello_of new.greeting) fault e in
    let same : record q { lost = more } ≡ record q { lost = more; hello = Faulty fault; waiting = None } =
    ap (λ (r : Reading (Unit {0})). record q { lost = more; hello = r }) hello ∙ ap (λ (o : Option Input). record q { lost = more; hello = Faulty fault; waiting = o }) (f.stands.relays.waiting ∙ none) in
    record {
      viewer = q;
      stands = f.stands;
      rest = f.rest ∙ (ap (λ t. after_bytes t left) same ∙ (stays_at s (record q { lost = more }) fault left ∙ ap (λ t. after_bytes t []) (sym same)));
    }

-- Where there is neither a fault nor an end, a byte is wanted.
pub never_stuck : (r : Reading (Unit {0})) → wants_more r ≡ false → fault_of r ≡ None → is_some (whole_of r) ≡ false → ⊥
never_stuck (Done x) w f e = absurd cc
never_stuck (Faulty fault) w f e = absurd cc
never_stuck (Want more) w f e = absurd cc

pub some_if : (n : ℕ) → (n ≡ 0 → ⊥) → 0 < n
some_if zero never = absurd (never refl)
some_if (suc n) never = omega arith

pub not_yet : (r : Reading (Unit {0})) → wants_more r ≡ true → is_some (whole_of r) ≡ false
not_yet (Done x) w = absurd cc
not_yet (Faulty f) w = refl
not_yet (Want more) w = refl

-- What is sent of it leaves what was put out.
pub greeting_on : (o : Option Greeting) (out new : Sending) → (out.unsent ≡ out.piece → (new.unsent ≡ new.piece) × (new.filled ≤ out.filled)) → IsGreeting o out → IsGreeting o new
greeting_on None out new alone k = tt
greeting_on (Some g) out new alone k =
    record {
      short = k.short;
      said = λ wants.
          let said : IsSaid g out = k.said wants in
          let left : (new.unsent ≡ new.piece) × (new.filled ≤ out.filled) = alone said.alone in
          record { said = said.said; filled = omega (arith, said.filled, left.1); alone = left.0 };
    }

-- ---- the beginning

abbrev pub first_greeting : ℕ → ℕ → List ℕ → Greeting
first_greeting w h name = record { w = w; h = h; name = name; begun = []; sent = 0 }

-- The version is said first.
pub opens_spoken : (w h : ℕ) (name : List ℕ) (out : Sending) → length name ≤ 255 → out.filled ≡ 12 → out.unsent ≡ out.piece → IsSpoken (with_said (first_greeting w h name)) out
opens_spoken w h name out short filled alone = record { short = short; said = λ wants. record { said = refl; filled = omega arith; alone = alone } }

pub opens : (s : Setup) (role : Role) (w h : ℕ) (name : List ℕ) (out : Sending) → s.w ≡ w → s.h ≡ h → s.name ≡ name → out.unsent ≡ version
    → IsBegun s role true (Some (with_said (first_greeting w h name))) out
opens s role w h name out ew eh en unsent =
    record { greets = record { w = sym ew; h = sym eh; name = sym en; greets = refl; goes_on = refl; taken = λ wants. (refl, refl) }; unsent = unsent }

-- What a viewer's bytes make of what it is sent. What was said stays said.
use Rattle.std.proofs.Common.{◌≡◌, ℕ, ◌+◌, Bool, true, false, List, [], ◌++◌, Option, Some, None, refl, ap, sym, ◌∙◌, append-nil, append_assoc}
use Rattle.std.specs.Prelude.{is_some, if◌then◌else◌}
use Rattle.fault.specs.declared.kinds.Fault.{Fault}
use Rattle.byte_reading.specs.Reading.{Reading, Done, Faulty, Want, step, fault_of, wants_more}
use Rattle.rfb_wire.specs.ClientMessage.{ClientMessage}
use Rattle.rfb_wire.specs.Greeting.{Greeting}
use Rattle.rfb_wire.specs.Handshake.{said_to_viewer}
use Rattle.roles.specs.Allowed.{Input}
use Rattle.roles.specs.Held.{input_for}
use Rattle.viewer_session.specs.Record.{NumbersUpTo}
use Rattle.viewer_session.specs.Viewer.{Setup, Viewer, out_bytes, after_bytes, after_hello, after_reading, marked, with_input}
use Rattle.viewer_session.specs.Session.{State, Stands, Greets}
use Rattle.viewer_session.proofs.Bytes.{keeps_bytes, keeps_input}
use Rattle.viewer_session.proofs.HelloLaws.{said_grows}

-- ---- a viewer's bytes change neither what was written nor its look, and add to what is said in its hello at most

abbrev Grows : List ℕ → List ℕ → Type 0
Grows before now = (more : List ℕ) × (now ≡ before ++ more)

grows_none : (before : List ℕ) → Grows before before
grows_none before = ([], sym (append-nil before))

grows_on : (a b c : List ℕ) → Grows a b → Grows b c → Grows a c
grows_on a b c k l = (k.0 ++ l.0, l.1 ∙ (ap (λ t. t ++ l.0) k.1 ∙ append_assoc a k.0 l.0))

-- While more of a hello is to come, no answer is begun.
abbrev pub IsEarly : Viewer → Type 0
IsEarly p = wants_more p.hello ≡ true → p.said_after ≡ []

early_by : (s : Setup) (o : Option Greeting) (greet : Bool) (hello : Reading (Unit {0})) (said : ℕ) (said_after : List ℕ) → Greets s o greet hello said said_after → wants_more hello ≡ true → said_after ≡ []
early_by s None greet hello said said_after k wants = absurd (let open_ : wants_more hello ≡ false = ap wants_more k.1 in cc)
early_by s (Some g) greet hello said said_after k wants = (k.taken wants).1

pub early : (s : Setup) (st : State) (p : Viewer) → Stands s st p → IsEarly p
early s st p k = early_by s st.greeting p.greet p.hello p.said p.said_after k.serves.greets

pub record HasGrown (s : Setup) (p q : Viewer) : Type 0 where
  pub looked : q.looked ≡ p.looked
  pub written : q.written ≡ p.written
  pub out : Grows (out_bytes s p) (out_bytes s q)
  pub early : IsEarly q
  pub numbers : (m : ℕ) → NumbersUpTo m p.entries → NumbersUpTo m q.entries
  pub back : (m : ℕ) → NumbersUpTo m q.entries → NumbersUpTo m p.entries

grown_from : (s : Setup) (p q r : Viewer) → HasGrown s p q → HasGrown s q r → HasGrown s p r
grown_from s p q r k l =
    record { looked = l.looked ∙ k.looked; written = l.written ∙ k.written; out = grows_on (out_bytes s p) (out_bytes s q) (out_bytes s r) k.out l.out; early = l.early; numbers = λ m n. l.numbers m (k.numbers m n); back = λ m n. k.back m (l.back m n) }

not_grown : (s : Setup) (p : Viewer) → IsEarly p → HasGrown s p p
not_grown s p e = record { looked = refl; written = refl; out = grows_none (out_bytes s p); early = e; numbers = λ m n. n; back = λ m n. n }

grown_input : (s : Setup) (p q : Viewer) (o : Option Input) → HasGrown s p q → HasGrown s p (with_input q o)
grown_input s p q o k =
    keeps_input (HasGrown s p) (λ r input l. record { looked = l.looked; written = l.written; out = l.out; early = l.early; numbers = l.numbers; back = l.back }) q o k

grown_reading : (s : Setup) (p : Viewer) (r : Reading ClientMessage) → IsEarly p → HasGrown s p (after_reading p r)
grown_reading s p (Done m) e =
    grown_input s p _ (input_for p.role (marked p.lost m).0) (record { looked = refl; written = refl; out = grows_none (out_bytes s p); early = e; numbers = λ m n. n; back = λ m n. n })
grown_reading s p (Faulty f) e = record { looked = refl; written = refl; out = grows_none (out_bytes s p); early = e; numbers = λ m n. n; back = λ m n. n }
grown_reading s p (Want more) e = record { looked = refl; written = refl; out = grows_none (out_bytes s p); early = e; numbers = λ m n. n; back = λ m n. n }

-- What is said in a hello by now, and the answers after it.
abbrev said_and : Setup → Bool → ℕ → List ℕ → List ℕ
said_and s greet count after = (if greet then said_to_viewer s.w s.h s.name count else []) ++ after

says_more : (s : Setup) (greet : Bool) (count : ℕ) (o : Option Fault) (after : List ℕ) → after ≡ [] → Grows (said_and s greet count after) (said_and s greet (if is_some o then count else count + 1) after)
says_more s greet count (Some f) after none = grows_none (said_and s greet count after)
says_more s false count None after none = grows_none (said_and s false count after)
says_more s true count None after none =
    let grows = said_grows s.w s.h s.name count in
    let alone : (n : ℕ) → said_and s true n after ≡ said_to_viewer s.w s.h s.name n = λ n. ap (λ t. said_to_viewer s.w s.h s.name n ++ t) none ∙ append-nil (said_to_viewer s.w s.h s.name n) in
    (grows.0, alone (count + 1) ∙ (grows.1 ∙ ap (λ t. t ++ grows.0) (sym (alone count))))

grown_hello : (s : Setup) (p : Viewer) (r : Reading (Unit {0})) → p.said_after ≡ [] → HasGrown s p (after_hello p r)
grown_hello s p r none = record { looked = refl; written = refl; out = says_more s p.greet p.said (fault_of r) p.said_after none; early = λ wants. none; numbers = λ m n. n; back = λ m n. n }

pub grown_bytes : (s : Setup) (p : Viewer) (bs : List ℕ) → IsEarly p → HasGrown s p (after_bytes p bs)
grown_bytes s p bs e =
    keeps_bytes (HasGrown s p) (λ q unread k. record { looked = k.looked; written = k.written; out = k.out; early = k.early; numbers = k.numbers; back = k.back })
    (λ q hello wants k. grown_from s p q (after_hello q hello) k (grown_hello s q hello (k.early wants)))
    (λ q b none k. grown_from s p q (after_reading q (step q.reading b)) k (grown_reading s q (step q.reading b) k.early)) p bs (not_grown s p e)

-- What is sent to a viewer before its answers: a whole handshake of a host. The law `hellos_are_heard` is made of it.
use Rattle.std.proofs.Common.{◌≡◌, ℕ, ◌+◌, ◌≤◌, Bool, true, false, cond, List, [], ◌∷◌, ◌++◌, length, Option, Some, None, refl, sym, ap, ◌∙◌, arith, inl, inr, length-append}
use Rattle.std.specs.Prelude.{is_some, nat_le}
use Rattle.std.proofs.lemmas.Bool.{cases_lt, le-leb}
use Rattle.fault.specs.declared.kinds.Fault.{Fault}
use Rattle.byte_reading.specs.Reading.{Reading, Done, Faulty, Want, step, after, fault_of, wants_more, whole_of}
use Rattle.byte_reading.proofs.ReadingLaws.{after-append, wants_no_fault}
use Rattle.raster.specs.Update.{Update}
use Rattle.rfb_wire.specs.ClientMessage.{ClientMessage, client_message}
use Rattle.rfb_wire.specs.Handshake.{said_to_viewer, server_init, version, viewer_hello}
use Rattle.rfb_wire.proofs.Greetings.{greeting_not_whole}
use Rattle.rfb_wire.proofs.Handshakes.{viewer_is_told}
use Rattle.roles.specs.declared.role.Role.{Role}
use Rattle.roles.specs.Held.{input_for}
use Rattle.viewer_session.specs.Acts.{Act, Cutting, Bytes, Turn, Written, Passed, after_act, after_turn, viewer_after}
use Rattle.viewer_session.specs.Record.{Took}
use Rattle.viewer_session.specs.Session.{with_marks}
use Rattle.viewer_session.specs.Viewer.{Setup, Viewer, after_byte, after_bytes, after_hello, after_reading, is_greeted, marked, new_viewer, out_bytes, viewer_fault}
use Rattle.viewer_session.proofs.Bytes.{keeps_input}
use Rattle.played_session.specs.Played.{HellosAreHeard}

-- The hello was read so far, and as long as it isn't at fault, each of its bytes counts.
pub record Greets (p : Viewer) : Type 0 where
  pub heard : List ℕ
  pub greet : p.greet ≡ true
  pub hello : p.hello ≡ after viewer_hello heard
  pub said : fault_of p.hello ≡ None → p.said ≡ length heard

greets_if : (b : Bool) (p q : Viewer) → Greets p → Greets q → Greets (cond b p q)
greets_if true p q k l = k
greets_if false p q k l = l

-- ---- bytes

pub counts : (o : Option Fault) (n : ℕ) → o ≡ None → cond (is_some o) n (n + 1) ≡ n + 1
counts None n e = refl
counts (Some fault) n e = absurd cc

pub greets_hello : (p : Viewer) (b : ℕ) → wants_more p.hello ≡ true → Greets p → Greets (after_hello p (step p.hello b))
greets_hello p b wants k =
    record {
      heard = k.heard ++ b ∷ [];
      greet = k.greet;
      hello = ap (λ r. step r b) k.hello ∙ sym (after-append viewer_hello k.heard (b ∷ []));
      said = λ fine. let before = k.said (wants_no_fault p.hello wants) in let now = counts (fault_of (step p.hello b)) p.said fine in omega (arith, before, now, length-append k.heard (b ∷ []));
    }

pub greets_reading : (p : Viewer) (r : Reading ClientMessage) → Greets p → Greets (after_reading p r)
greets_reading p (Done m) k =
    keeps_input Greets (λ q input l. record { heard = l.heard; greet = l.greet; hello = l.hello; said = l.said })
    (record p { entries = Took (marked p.lost m).0 ∷ p.entries; lost = (marked p.lost m).1; reading = client_message }) (input_for p.role (marked p.lost m).0)
    (record { heard = k.heard; greet = k.greet; hello = k.hello; said = k.said })
greets_reading p (Faulty fault) k = record { heard = k.heard; greet = k.greet; hello = k.hello; said = k.said }
greets_reading p (Want more) k = record { heard = k.heard; greet = k.greet; hello = k.hello; said = k.said }

greets_byte : (p : Viewer) (b : ℕ) (wants : Bool) → wants_more p.hello ≡ wants → Greets p
    → Greets (cond wants (after_hello p (step p.hello b)) (cond (is_some (viewer_fault p)) p (after_reading p (step p.reading b))))
greets_byte p b true e k = greets_hello p b e k
greets_byte p b false e k = greets_if (is_some (viewer_fault p)) p (after_reading p (step p.reading b)) k (greets_reading p (step p.reading b) k)

greets_unread : (p : Viewer) (unread : List ℕ) → Greets p → Greets (record p { unread = unread })
greets_unread p unread k = record { heard = k.heard; greet = k.greet; hello = k.hello; said = k.said }

pub greets_bytes : (p : Viewer) (bs : List ℕ) → Greets p → Greets (after_bytes p bs)
greets_bytes p [] k = greets_unread p [] k
greets_bytes p (b ∷ bs) k =
    greets_if (is_some p.waiting) (record p { unread = b ∷ bs }) (after_bytes (after_byte p b) bs) (greets_unread p (b ∷ bs) k) (greets_bytes (after_byte p b) bs (greets_byte p b (wants_more p.hello) refl k))

-- ---- acts

greets_turn : (s : Setup) (us : List Update) (p : Viewer) (looked : ℕ) (cut : Option Cutting) → Greets p → Greets (after_turn s us looked cut p)
greets_turn s us p looked None k = record { heard = k.heard; greet = k.greet; hello = k.hello; said = k.said }
greets_turn s us p looked (Some cut) k = record { heard = k.heard; greet = k.greet; hello = k.hello; said = k.said }

pub greets_act : (s : Setup) (us : List Update) (p : Viewer) (act : Act) → Greets p → Greets (after_act s us act p)
greets_act s us p (Bytes marks bytes) k = greets_bytes (with_marks marks p) bytes (record { heard = k.heard; greet = k.greet; hello = k.hello; said = k.said })
greets_act s us p (Turn looked cut) k = greets_turn s us p looked cut k
greets_act s us p (Written count) k = record { heard = k.heard; greet = k.greet; hello = k.hello; said = k.said }
greets_act s us p Passed k = record { heard = k.heard; greet = k.greet; hello = k.hello; said = k.said }

pub greets_all : (s : Setup) (us : List Update) (p : Viewer) (acts : List Act) → Greets p → Greets (viewer_after s us p acts)
greets_all s us p [] k = k
greets_all s us p (act ∷ acts) k = greets_act s us (viewer_after s us p acts) act (greets_all s us p acts k)

-- ---- a hello that is done

abbrev pub said_by : ℕ → ℕ → List ℕ → Bool → Bool → Bool → List ℕ
said_by w h name a b c = version ++ cond a (1 ∷ 1 ∷ []) [] ++ cond b (0 ∷ 0 ∷ 0 ∷ 0 ∷ []) [] ++ cond c (server_init w h name) []

all_said : (w h : ℕ) (name : List ℕ) (n : ℕ) → 14 ≤ n → said_to_viewer w h name n ≡ said_to_viewer w h name 14
all_said w h name n le =
    ap (λ a. said_by w h name a (nat_le 13 n) (nat_le 14 n)) (le-leb 12 n (omega (arith, le)))
    ∙ (ap (λ b. said_by w h name true b (nat_le 14 n)) (le-leb 13 n (omega (arith, le))) ∙ ap (λ c. said_by w h name true true c) (le-leb 14 n le))

no_fault : (r : Reading (Unit {0})) → is_some (whole_of r) ≡ true → fault_of r ≡ None
no_fault (Done x) e = refl
no_fault (Faulty fault) e = absurd cc
no_fault (Want more) e = absurd cc

is_long : (heard : List ℕ) → is_some (whole_of (after viewer_hello heard)) ≡ true → 14 ≤ length heard
is_long heard e =
    elim (cases_lt (length heard) 14) [
      | inl lt ↦ absurd (let open_ = greeting_not_whole heard (fault_of (after viewer_hello heard)) refl lt in let both : false ≡ true = open_ ∙ e in cc)
      | inr ge ↦ ge
    ]

pub out_first : (s : Setup) (us : List Update) (role : Role) (acts : List Act) → is_greeted (viewer_after s us (new_viewer role true) acts) ≡ true
    → out_bytes s (viewer_after s us (new_viewer role true) acts) ≡ said_to_viewer s.w s.h s.name 14 ++ (viewer_after s us (new_viewer role true) acts).said_after
out_first s us role acts done =
    let p : Viewer = viewer_after s us (new_viewer role true) acts in
    let k : Greets p = greets_all s us (new_viewer role true) acts (record { heard = []; greet = refl; hello = refl; said = λ fine. refl }) in
    let long : 14 ≤ length k.heard = is_long k.heard (sym (ap (λ r. is_some (whole_of r)) k.hello) ∙ done) in
    let said : p.said ≡ length k.heard = k.said (no_fault p.hello done) in
    ap (λ b. cond b (said_to_viewer s.w s.h s.name p.said) [] ++ p.said_after) k.greet ∙ ap (λ t. t ++ p.said_after) (all_said s.w s.h s.name p.said (omega (arith, long, said)))

pub hellos_heard : HellosAreHeard
hellos_heard s size short us role acts done =
    record {
      hello = said_to_viewer s.w s.h s.name 14;
      spelled = viewer_is_told None s.w s.h s.name size.wide.0 size.wide.1 size.high.0 size.high.1 short;
      all = out_first s us role acts done;
    }

-- What a viewer's bytes keep. What stands of a viewer is kept through its messages by it.
use Rattle.std.proofs.Common.{◌≡◌, ℕ, Bool, true, false, cond, List, [], ◌∷◌, Option, Some, None, refl}
use Rattle.std.specs.Prelude.{is_some}
use Rattle.byte_reading.specs.Reading.{Reading, Done, Faulty, Want, step, wants_more}
use Rattle.rfb_wire.specs.ClientMessage.{ClientMessage, client_message}
use Rattle.roles.specs.declared.role.Role.{Role}
use Rattle.roles.specs.Allowed.{Input, keys_after, passes}
use Rattle.roles.specs.Held.{input_for}
use Rattle.viewer_session.specs.Record.{Took}
use Rattle.viewer_session.specs.Viewer.{Viewer, after_byte, after_bytes, after_hello, after_reading, marked, viewer_fault, with_input}

keeps_if : (P : Viewer → Type 0) (b : Bool) (p q : Viewer) → P p → P q → P (cond b p q)
keeps_if P true p q k l = k
keeps_if P false p q k l = l

-- What holds whether an input waits or not.
pub keeps_input : (P : Viewer → Type 0) → ((p : Viewer) (input : Input) → P p → P (record p { keys = keys_after p.keys input; waiting = Some input })) → (p : Viewer) (o : Option Input) → P p → P (with_input p o)
keeps_input P waits p None k = k
keeps_input P waits p (Some input) k = keeps_if P (passes p.keys input) _ p (waits p input k) k

keeps_byte : (P : Viewer → Type 0) (p : Viewer) (b : ℕ) (wants : Bool) → wants_more p.hello ≡ wants → (wants_more p.hello ≡ true → P (after_hello p (step p.hello b)))
    → P p → P (after_reading p (step p.reading b)) → P (cond wants (after_hello p (step p.hello b)) (cond (is_some (viewer_fault p)) p (after_reading p (step p.reading b))))
keeps_byte P p b true e hello k reading = hello e
keeps_byte P p b false e hello k reading = keeps_if P (is_some (viewer_fault p)) p (after_reading p (step p.reading b)) k reading

keeps_unless : (P : Viewer → Type 0) (p : Viewer) (b : ℕ) (bs : List ℕ) (o : Option Input) → p.waiting ≡ o → P (record p { unread = b ∷ bs }) → (p.waiting ≡ None → P (after_bytes (after_byte p b) bs))
    → P (cond (is_some o) (record p { unread = b ∷ bs }) (after_bytes (after_byte p b) bs))
keeps_unless P p b bs None e rests on = on e
keeps_unless P p b bs (Some input) e rests on = rests

-- What each byte of the hello and each step in reading a message keeps, where no input waits, all bytes keep.
pub keeps_bytes : (P : Viewer → Type 0) → ((p : Viewer) (unread : List ℕ) → P p → P (record p { unread = unread }))
    → ((p : Viewer) (hello : Reading (Unit {0})) → wants_more p.hello ≡ true → P p → P (after_hello p hello))
    → ((p : Viewer) (b : ℕ) → p.waiting ≡ None → P p → P (after_reading p (step p.reading b)))
    → (p : Viewer) (bs : List ℕ) → P p → P (after_bytes p bs)
keeps_bytes P rests hello reading p [] k = rests p [] k
keeps_bytes P rests hello reading p (b ∷ bs) k =
    keeps_unless P p b bs p.waiting refl (rests p (b ∷ bs) k)
    (λ none. keeps_bytes P rests hello reading (after_byte p b) bs (keeps_byte P p b (wants_more p.hello) refl (λ wants. hello p (step p.hello b) wants k) k (reading p b none k)))

role_reading : (role : Role) (p : Viewer) (r : Reading ClientMessage) → p.role ≡ role → (after_reading p r).role ≡ role
role_reading role p (Done m) e =
    keeps_input (λ (q : Viewer). q.role ≡ role) (λ q input k. k) (record p { entries = Took (marked p.lost m).0 ∷ p.entries; lost = (marked p.lost m).1; reading = client_message }) (input_for p.role (marked p.lost m).0) e
role_reading role p (Faulty fault) e = e
role_reading role p (Want more) e = e

-- The role stays.
pub same_role : (p : Viewer) (bs : List ℕ) → (after_bytes p bs).role ≡ p.role
same_role p bs =
    keeps_bytes (λ (q : Viewer). q.role ≡ p.role) (λ q unread k. k) (λ q hello wants k. k) (λ q b none k. role_reading p.role q (step q.reading b) k) p bs refl

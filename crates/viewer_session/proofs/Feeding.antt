-- What a viewer's bytes make of it, message by message. A session keeps it by its fields.
use Rattle.std.proofs.Common.{◌≡◌, ℕ, ◌<◌, ◌≤◌, Ok, true, List, [], ◌∷◌, length, drop, Option, Some, None, refl, sym, ap, ◌∙◌, arith, inl, inr}
use Rattle.std.specs.Prelude.{option_map}
use Rattle.fault.specs.declared.kinds.Fault.{Fault}
use Rattle.byte_reading.specs.Reading.{Reading, Done, Faulty, Want, after, taken, fault_of, whole_of, wants_more, renewed, Feeds, GivesWhole}
use Rattle.byte_reading.proofs.ReadingLaws.{after-done, after-faulty, taken-le, taken-some}
use Rattle.rfb_wire.specs.ClientMessage.{ClientMessage, without_text}
use Rattle.rfb_wire.specs.Message.{viewer_form, losing, FeedsOrLoses}
use Rattle.rfb_wire.proofs.Losing.{losing-whole}
use Rattle.viewer_session.specs.Viewer.{Viewer, marked, with_message, after_reading, after_bytes}

-- A viewer whose hello is done, of which no byte is unread and no input waits.
abbrev pub past_hello : Viewer → Viewer
past_hello p = record p { hello = Done tt; unread = []; waiting = None }

abbrev with_reading : Viewer → Reading ClientMessage → Viewer
with_reading p r = record p { reading = r }

done_is : (x y : ClientMessage) → Done x ≡ Done y → x ≡ y
done_is x y e = cc

is_not : (f : Fault) (m : ClientMessage) → Faulty f ≡ Done m → ⊥
is_not f m e = cc

-- The bytes up to the end of a message: it is taken, and the bytes after it are left.
whole_from : (p : Viewer) (r : Reading ClientMessage) (bs : List ℕ) (m : ClientMessage) → after r bs ≡ Done m
    → after_bytes (after_reading (past_hello p) r) bs ≡ after_bytes (with_message (past_hello p) (marked p.lost m)) (drop (taken r bs) bs)
whole_from p (Done x) bs m e =
    let same : x ≡ m = done_is x m (sym (after-done x bs) ∙ e) in
    ap (λ y. after_bytes (with_message (past_hello p) (marked p.lost y)) bs) same
whole_from p (Faulty f) bs m e = absurd (is_not f m (sym (after-faulty f bs) ∙ e))
whole_from p (Want more) [] m e = absurd cc
whole_from p (Want more) (b ∷ bs) m e = whole_from p (more b) bs m e

pub takes_whole : (p : Viewer) (r : Reading ClientMessage) (bs : List ℕ) (m : ClientMessage) → wants_more r ≡ true → after r bs ≡ Done m
    → after_bytes (past_hello (with_reading p r)) bs ≡ after_bytes (with_message (past_hello p) (marked p.lost m)) (drop (taken r bs) bs)
takes_whole p (Done x) bs m w e = absurd cc
takes_whole p (Faulty f) bs m w e = absurd cc
takes_whole p (Want more) [] m w e = absurd cc
takes_whole p (Want more) (b ∷ bs) m w e = whole_from p (more b) bs m e

some_is_not : (m : ClientMessage) → Some m ≡ None → ⊥
some_is_not m e = cc

goes_on_from : (p : Viewer) (r : Reading ClientMessage) (bs : List ℕ) → whole_of (after r bs) ≡ None
    → after_bytes (after_reading (past_hello p) r) bs ≡ after_bytes (past_hello (with_reading p (after r bs))) (drop (taken r bs) bs)
goes_on_from p (Done x) bs e = absurd (some_is_not x (sym (ap whole_of (after-done x bs)) ∙ e))
goes_on_from p (Faulty f) bs e = ap (λ r. after_bytes (past_hello (with_reading p r)) bs) (sym (after-faulty f bs))
goes_on_from p (Want more) [] e = refl
goes_on_from p (Want more) (b ∷ bs) e = goes_on_from p (more b) bs e

-- Bytes that end no message leave the reading of one gone on by them. A fault takes none.
pub goes_on : (p : Viewer) (r : Reading ClientMessage) (bs : List ℕ) → whole_of (after r bs) ≡ None
    → after_bytes (past_hello (with_reading p r)) bs ≡ after_bytes (past_hello (with_reading p (after r bs))) (drop (taken r bs) bs)
goes_on p (Done x) bs e = absurd (some_is_not x (sym (ap whole_of (after-done x bs)) ∙ e))
goes_on p (Faulty f) bs e = ap (λ r. after_bytes (past_hello (with_reading p r)) bs) (sym (after-faulty f bs))
goes_on p (Want more) [] e = refl
goes_on p (Want more) (b ∷ bs) e = goes_on_from p (more b) bs e

-- After a fault nothing changes.
pub stays : (p : Viewer) (f : Fault) (bs : List ℕ) → after_bytes (past_hello (with_reading p (Faulty f))) bs ≡ past_hello (with_reading p (Faulty f))
stays p f [] = refl
stays p f (b ∷ bs) = stays p f bs

-- A reader in which no whole message waits uses some byte of a piece, where it meets no fault.
fed_some : (r new : Reading ClientMessage) (piece : List ℕ) (used : ℕ) → whole_of r ≡ None → Feeds r new piece (Ok used) → (used ≤ length piece) × (0 < length piece → 0 < used)
fed_some (Done x) new piece used w h = absurd (some_is_not x w)
fed_some (Faulty f) new piece used w h = absurd (let at : fault_of new ≡ Some f = ap fault_of (h.0 ∙ after-faulty f piece) in let none : fault_of new ≡ None = h.2 in cc)
fed_some (Want more) new piece used w h =
    (omega (arith, h.1, taken-le (Want more) piece), λ some. omega (arith, h.1, taken-some (Want more) piece refl some))

pub uses_some : (r new : Reading ClientMessage) (piece : List ℕ) (used : ℕ) → whole_of r ≡ None → FeedsOrLoses r new piece (Ok used) → (used ≤ length piece) × (0 < length piece → 0 < used)
uses_some r new piece used w (inl h) = fed_some r new piece used w h
uses_some r new piece used w (inr h) = fed_some (losing r) new piece used (losing-whole r ∙ ap (option_map without_text) w) h

-- After a message was taken, or there was none, none waits, and there is no fault where there was none.
whole_renewed : (r : Reading ClientMessage) → whole_of (renewed viewer_form r) ≡ None
whole_renewed (Done m) = refl
whole_renewed (Faulty f) = refl
whole_renewed (Want more) = refl

pub none_waits : (r new : Reading ClientMessage) (given : Option ClientMessage) → GivesWhole viewer_form r new given → whole_of new ≡ None
none_waits r new given g = ap whole_of g.begins_anew ∙ whole_renewed r

fault_renewed : (r : Reading ClientMessage) → fault_of r ≡ None → fault_of (renewed viewer_form r) ≡ None
fault_renewed (Done m) e = refl
fault_renewed (Faulty f) e = e
fault_renewed (Want more) e = refl

fault_free : (old r : Reading ClientMessage) (piece : List ℕ) (used : ℕ) → FeedsOrLoses old r piece (Ok used) → fault_of r ≡ None
fault_free old r piece used (inl h) = h.2
fault_free old r piece used (inr h) = h.2

pub no_fault : (old r new : Reading ClientMessage) (piece : List ℕ) (used : ℕ) (given : Option ClientMessage) → FeedsOrLoses old r piece (Ok used) → GivesWhole viewer_form r new given → fault_of new ≡ None
no_fault old r new piece used given h g = ap fault_of g.begins_anew ∙ fault_renewed r (fault_free old r piece used h)

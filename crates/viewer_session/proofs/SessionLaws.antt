-- What a session's state stands for, call by call. Each call keeps that by these.
use Rattle.std.proofs.Common.{◌≡◌, ℕ, ◌-◌, ◌≤◌, Bool, true, false, cond, List, ◌∷◌, length, drop, Option, Some, None, refl, sym, ap, subst, ◌∙◌, arith, inl, inr}
use Rattle.std.proofs.lemmas.Bool.Decides.{nat_tests}
use Rattle.std.specs.Prelude.{if◌then◌else◌, is_some, IsTrue}
use Rattle.std.proofs.lemmas.List.{length-drop, drop-drop}
use Rattle.fault.specs.declared.kinds.Fault.{Fault}
use Rattle.pixel_format.specs.PixelFormat.{PixelFormat}
use Rattle.byte_reading.specs.Reading.{Reading, fault_of, whole_of}
use Rattle.raster.specs.declared.rect.Rect.{Rect}
use Rattle.raster.specs.Screen.{common, whole_screen, meets, is_empty, tile_rect}
use Rattle.rfb_wire.specs.ClientMessage.{ClientMessage, SetPixelFormat, Ask, Key, Pointer, CutText, LostText}
use Rattle.rfb_wire.specs.declared.client_reader.ClientReader.{ClientReader}
use Rattle.rfb_wire.specs.ClientReader.{ahead}
use Rattle.rfb_wire.specs.Greeting.{Greeting}
use Rattle.rfb_wire.specs.Message.{IsOrLoses, viewer_form}
use Rattle.rfb_wire.proofs.Beginnings.{nothing_lost}
use Rattle.rfb_wire.proofs.Losing.{losing-fault}
use Rattle.tiles.specs.Have.{SentTiles, HaveStands}
use Rattle.tiles.specs.Touched.{Event, Requested, NewFormat, last_sent}
use Rattle.reflect_core.specs.Asked.{Wanted, AskedStands}
use Rattle.roles.specs.Allowed.{allowed, releases}
use Rattle.viewer_session.specs.Record.{Took, events, messages_in}
use Rattle.viewer_session.specs.Viewer.{Setup, Viewer, viewer_fault, out_bytes}
use Rattle.viewer_session.specs.Session.{State, Serves, Stands, Greets, HasReleases, IsBetween, Keeps, at_rest, after_noting, after_look, after_writing, fault_in, is_greeted, without_input}
use Rattle.viewer_session.proofs.HelloLaws.{hello_served}
use Rattle.viewer_session.proofs.Relaying.{serves_held, serves_input, left_is}

-- ---- messages

resting : (m : ClientMessage) (p : Viewer) → p ≡ at_rest p → after_noting m p ≡ at_rest (after_noting m p)
resting m p e = ap (after_noting m) e

-- A message was taken, and the record is kept.
pub serves_taking : (s : Setup) (m : ClientMessage) (st new : State) (p : Viewer) → Serves s st p
    → new.width ≡ st.width → new.height ≡ st.height → new.form ≡ st.form → new.host ≡ st.host → new.role ≡ st.role → new.greeting ≡ st.greeting → new.reader ≡ st.reader → new.unsent ≡ st.unsent
    → new.begun ≡ st.begun → Keeps s.w s.h new (Took m ∷ p.entries) → Serves s new (after_noting m p)
serves_taking s m st new p k ew eh en ef er eg er2 eu eb keeps =
    record {
      width = ew ∙ k.width;
      height = eh ∙ k.height;
      form = en ∙ k.form;
      host = ef ∙ k.host;
      role = k.role ∙ sym er;
      rests = resting m p k.rests;
      greets = subst (λ (o : Option Greeting). Greets s o p.greet p.hello p.said p.said_after) (sym eg) k.greets;
      reading = subst (λ (r : ClientReader). IsOrLoses (ahead r) p.reading) (sym er2) k.reading;
      taken = k.taken;
      short = k.short;
      keeps = keeps;
      written = k.written;
      unsent = eu ∙ k.unsent;
      begun = eb ∙ k.begun;
    }

-- A request, as it was clipped to the screen.
pub serves_asked : (s : Setup) (st now : State) (p : Viewer) (incremental : Bool) (area clipped : Rect) (asked : Wanted) (have : SentTiles) → st ≡ now → Serves s now p
    → clipped ≡ common area (whole_screen st.width st.height)
    → ((es : List Event) → AskedStands st.asked es → AskedStands asked (Requested incremental clipped ∷ es))
    → ((es : List Event) → HaveStands st.have es → HaveStands have (Requested incremental clipped ∷ es))
    → Serves s (record st { asked = asked; have = have }) (after_noting (Ask incremental area) p)
serves_asked s st now p incremental area clipped asked have is stands e a h =
    let k : Serves s st p = subst (λ (t : State). Serves s t p) (sym is) stands in
    let same : clipped ≡ common area (whole_screen s.w s.h) = e ∙ (ap (λ n. common area (whole_screen n st.height)) k.width ∙ ap (λ n. common area (whole_screen s.w n)) k.height) in
    let es : List Event = events s.w s.h p.entries in
    serves_taking s (Ask incremental area) st (record st { asked = asked; have = have }) p k refl refl refl refl refl refl refl refl refl
    (record {
      asked = subst (λ (r : Rect). AskedStands asked (Requested incremental r ∷ es)) same (a es k.keeps.asked);
      have = subst (λ (r : Rect). HaveStands have (Requested incremental r ∷ es)) same (h es k.keeps.have);
      format = k.keeps.format;
      choice = k.keeps.choice;
      told = k.keeps.told;
    })

-- A pixel format.
pub serves_format : (s : Setup) (st now : State) (p : Viewer) (format : PixelFormat) (asked : Wanted) (have : SentTiles) → st ≡ now → Serves s now p
    → ((es : List Event) → AskedStands st.asked es → AskedStands asked (NewFormat ∷ es))
    → ((es : List Event) → HaveStands st.have es → HaveStands have (NewFormat ∷ es))
    → Serves s (record st { format = format; asked = asked; have = have }) (after_noting (SetPixelFormat format) p)
serves_format s st now p format asked have is stands a h =
    let k : Serves s st p = subst (λ (t : State). Serves s t p) (sym is) stands in
    let es : List Event = events s.w s.h p.entries in
    serves_taking s (SetPixelFormat format) st (record st { format = format; asked = asked; have = have }) p k refl refl refl refl refl refl refl refl refl
    (record { asked = a es k.keeps.asked; have = h es k.keeps.have; format = refl; choice = k.keeps.choice; told = k.keeps.told })

none_by : (a b c d e f g k : ℕ) → is_empty (record { x = a; y = b; w = c; h = d }) ≡ true → meets (record { x = a; y = b; w = c; h = d }) (record { x = e; y = f; w = g; h = k }) ≡ false
none_by a b c d e f g k z = grind (arith, nat_tests)

-- An empty request forgets no tile.
meets_none : (area r : Rect) → is_empty area ≡ true → meets area r ≡ false
meets_none area r e = none_by area.x area.y area.w area.h r.x r.y r.w r.h e

forgets_none : (incremental : Bool) (area r : Rect) (es : List Event) → is_empty area ≡ true → last_sent r (Requested incremental area ∷ es) ≡ last_sent r es
forgets_none true area r es e = refl
forgets_none false area r es e = ap (λ b. cond b None (last_sent r es)) (meets_none area r e)

pub stands_empty : (incremental : Bool) (area : Rect) (have : SentTiles) (es : List Event) → is_empty area ≡ true → HaveStands have es → HaveStands have (Requested incremental area ∷ es)
stands_empty incremental area have es e k =
    record { each = λ t lt. k.each t lt ∙ ap Some (sym (forgets_none incremental area (tile_rect have.width have.height t) es e)) }

-- A message that changes nothing: input.
pub serves_key : (s : Setup) (st : State) (p : Viewer) (down : Bool) (key : ℕ) → Serves s st p → Serves s st (after_noting (Key down key) p)
serves_key s st p down key k =
    serves_taking s (Key down key) st st p k refl refl refl refl refl refl refl refl refl (record { asked = k.keeps.asked; have = k.keeps.have; format = k.keeps.format; choice = k.keeps.choice; told = k.keeps.told })

pub serves_pointer : (s : Setup) (st : State) (p : Viewer) (mask x y : ℕ) → Serves s st p → Serves s st (after_noting (Pointer mask x y) p)
serves_pointer s st p mask x y k =
    serves_taking s (Pointer mask x y) st st p k refl refl refl refl refl refl refl refl refl (record { asked = k.keeps.asked; have = k.keeps.have; format = k.keeps.format; choice = k.keeps.choice; told = k.keeps.told })

pub serves_text : (s : Setup) (st : State) (p : Viewer) (text : List ℕ) → Serves s st p → Serves s st (after_noting (CutText text) p)
serves_text s st p text k =
    serves_taking s (CutText text) st st p k refl refl refl refl refl refl refl refl refl (record { asked = k.keeps.asked; have = k.keeps.have; format = k.keeps.format; choice = k.keeps.choice; told = k.keeps.told })

pub serves_lost : (s : Setup) (st : State) (p : Viewer) (len : ℕ) → Serves s st p → Serves s st (after_noting (LostText len) p)
serves_lost s st p len k =
    serves_taking s (LostText len) st st p k refl refl refl refl refl refl refl refl refl (record { asked = k.keeps.asked; have = k.keeps.have; format = k.keeps.format; choice = k.keeps.choice; told = k.keeps.told })

-- ---- looks

-- What the last step was makes no difference.
pub serves_look : (s : Setup) (st : State) (p : Viewer) (o : Option ℕ) → Serves s st p → Serves s st (record p { looked = o })
serves_look s st p o k =
    record {
      width = k.width;
      height = k.height;
      form = k.form;
      host = k.host;
      role = k.role;
      rests = ap (λ (q : Viewer). record q { looked = o }) k.rests;
      greets = k.greets;
      reading = k.reading;
      taken = k.taken;
      short = k.short;
      keeps = record { asked = k.keeps.asked; have = k.keeps.have; format = k.keeps.format; choice = k.keeps.choice; told = k.keeps.told };
      written = k.written;
      unsent = k.unsent;
      begun = k.begun;
    }

-- A look is only noted.
pub serves_saw : (s : Setup) (st : State) (p : Viewer) (n : ℕ) → Serves s st p → Serves s st (after_look n p)
serves_saw s st p n k =
    record {
      width = k.width;
      height = k.height;
      form = k.form;
      host = k.host;
      role = k.role;
      rests = ap (after_look n) k.rests;
      greets = k.greets;
      reading = k.reading;
      taken = k.taken;
      short = k.short;
      keeps = record { asked = k.keeps.asked; have = k.keeps.have; format = k.keeps.format; choice = k.keeps.choice; told = k.keeps.told };
      written = k.written;
      unsent = k.unsent;
      begun = k.begun;
    }

-- ---- what the state tells of the viewer

fault_told : (now reading : Reading ClientMessage) → IsOrLoses now reading → fault_of now ≡ fault_of reading
fault_told now reading (inl e) = ap fault_of e
fault_told now reading (inr e) = ap fault_of e ∙ losing-fault reading

abbrev first_fault : Option Fault → Option Fault → Option Fault
first_fault o q = if is_some o then o else q

pub fault_served : (s : Setup) (st : State) (p : Viewer) → Serves s st p → fault_in st ≡ viewer_fault p
fault_served s st p k =
    ap (λ o. first_fault o (fault_of (ahead st.reader))) (ap fault_of (sym (hello_served s st p k)))
    ∙ ap (first_fault (fault_of p.hello)) (fault_told (ahead st.reader) p.reading k.reading)

-- What of all that the viewer is sent isn't written yet.
pub unsent_left : (s : Setup) (st : State) (p : Viewer) → Serves s st p → length st.unsent ≡ length (out_bytes s p) - p.written
unsent_left s st p k = ap length k.unsent ∙ length-drop p.written (out_bytes s p)

-- Some of it is written.
pub serves_written : (s : Setup) (st : State) (p : Viewer) (n : ℕ) (piece : List ℕ) → n ≤ length st.unsent → Serves s st p → Serves s (record st { piece = piece; unsent = drop n st.unsent }) (after_writing n p)
serves_written s st p n piece le k =
    record {
      width = k.width;
      height = k.height;
      form = k.form;
      host = k.host;
      role = k.role;
      rests = ap (after_writing n) k.rests;
      greets = k.greets;
      reading = k.reading;
      taken = k.taken;
      short = k.short;
      keeps = record { asked = k.keeps.asked; have = k.keeps.have; format = k.keeps.format; choice = k.keeps.choice; told = k.keeps.told };
      written = omega (arith, unsent_left s st p k, k.written);
      unsent = ap (drop n) k.unsent ∙ drop-drop n p.written (out_bytes s p);
      begun = k.begun;
    }

-- ---- between two messages

begins_as : (now reading : Reading ClientMessage) → now ≡ viewer_form → IsOrLoses now reading → reading ≡ viewer_form
begins_as now reading begins (inl e) = sym e ∙ begins
begins_as now reading begins (inr e) = absurd (nothing_lost reading (sym begins ∙ e))

-- A reader at the beginning of a message, after the hello.
pub between_served : (s : Setup) (st : State) (p : Viewer) (b : Bool) → is_greeted st ≡ true → (IsTrue b → IsOrLoses (ahead st.reader) viewer_form) → (IsOrLoses (ahead st.reader) viewer_form → IsTrue b)
    → (IsTrue b → ahead st.reader ≡ viewer_form) → Serves s st p → (IsTrue b → IsBetween p) × (IsBetween p → IsTrue b)
between_served s st p b greeted to from begins k = (
  λ e. record {
    greeted = ap (λ r. is_some (whole_of r)) (hello_served s st p k) ∙ greeted;
    begins = begins_as (ahead st.reader) p.reading (begins e) k.reading;
  },
  λ t. from (subst (λ r. IsOrLoses (ahead st.reader) r) t.begins k.reading),
)

-- ---- all of a viewer

pub stands_look : (s : Setup) (st : State) (p : Viewer) (o : Option ℕ) → Stands s st p → Stands s st (record p { looked = o })
stands_look s st p o k = record { serves = serves_look s st p o k.serves; relays = record { waiting = k.relays.waiting; keys = k.relays.keys; held = k.relays.held } }

pub stands_saw : (s : Setup) (st : State) (p : Viewer) (n : ℕ) → Stands s st p → Stands s st (after_look n p)
stands_saw s st p n k = record { serves = serves_saw s st p n k.serves; relays = record { waiting = k.relays.waiting; keys = k.relays.keys; held = k.relays.held } }

pub stands_written : (s : Setup) (st : State) (p : Viewer) (n : ℕ) (piece : List ℕ) → n ≤ length st.unsent → Stands s st p → Stands s (record st { piece = piece; unsent = drop n st.unsent }) (after_writing n p)
stands_written s st p n piece le k =
    record { serves = serves_written s st p n piece le k.serves; relays = record { waiting = k.relays.waiting; keys = k.relays.keys; held = k.relays.held } }

pub fault_stands : (s : Setup) (st : State) (p : Viewer) → Stands s st p → fault_in st ≡ viewer_fault p
fault_stands s st p k = fault_served s st p k.serves

pub between_stands : (s : Setup) (st : State) (p : Viewer) (b : Bool) → is_greeted st ≡ true → (IsTrue b → IsOrLoses (ahead st.reader) viewer_form) → (IsOrLoses (ahead st.reader) viewer_form → IsTrue b)
    → (IsTrue b → ahead st.reader ≡ viewer_form) → Stands s st p → (IsTrue b → IsBetween p) × (IsBetween p → IsTrue b)
between_stands s st p b greeted to from begins k = between_served s st p b greeted to from begins k.serves

-- The input that waits is taken.
pub stands_input : (s : Setup) (st : State) (p : Viewer) → Stands s st p → Stands s (record st { waiting = None }) (without_input p)
stands_input s st p k =
    record {
      serves = serves_held s st (without_input p) st.held None (serves_input s st p p.keys None k.serves);
      relays = record { waiting = refl; keys = k.relays.keys; held = k.relays.held };
    }

-- What is still to be released.
pub releases_are : (st : State) → HasReleases st
releases_are st = λ s p k. left_is st.role st.held (messages_in p.entries) k.relays.held ∙ ap (λ r. releases (allowed r (messages_in p.entries) false)) (sym k.serves.role)

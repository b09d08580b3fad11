-- Places of viewers. The calls on one place keep what stands of it.
use Rattle.std.proofs.Common.{◌≡◌, ℕ, zero, suc, ◌+◌, ◌-◌, ◌<◌, Bool, true, false, cond, List, [], ◌∷◌, ◌++◌, length, take, Option, Some, None, refl, ap, sym, ◌∙◌, subst, arith, append_assoc, length-append}
use Rattle.std.specs.Prelude.{slice_set, is_some, min, ◌==◌, if◌then◌else◌}
use Rattle.std.proofs.Math.Seq.{take-add}
use Rattle.std.proofs.lemmas.Bool.{eqb-true, eqb-false}
use Rattle.std.proofs.lemmas.List.{get_or-set_same, get_or-set_other, length-drop, take-append-le, take-map}
use Rattle.byte_reading.specs.Reading.{Reading, Done, Faulty, Want, step, wants_more}
use Rattle.raster.specs.Screen.{opening}
use Rattle.raster.specs.Update.{Update, bells}
use Rattle.tiles.specs.Touched.{bell_or_text}
use Rattle.painter.specs.Same.{AreSameFrom}
use Rattle.painter.proofs.SameLaws.{same_bells}
use Rattle.rfb_wire.specs.ClientMessage.{ClientMessage, client_message}
use Rattle.roles.specs.Allowed.{Input, passes}
use Rattle.viewer_session.specs.Viewer.{Setup, Viewer, out_bytes, may_look, after_cut, after_byte, after_bytes, after_reading, marked, viewer_fault, with_input}
use Rattle.viewer_session.specs.Record.{Took}
use Rattle.viewer_session.specs.Turn.{sent_at}
use Rattle.reflect_core.specs.declared.cut.Cut.{Cut}
use Rattle.viewer_session.specs.Session.{State, Stands, StandsBut, HasCounted, IsSameSession, at_rest, is_ready, after_look, with_marks, without_look, without_input, after_writing}
use Rattle.viewer_session.proofs.SessionLaws.{fault_stands, stands_look, stands_saw}
use Rattle.reflect_world.specs.Said.{hello_of}
use Rattle.reflect_world.specs.World.{Held, PlaceBy, PlaceShows, PlaceStands, place_at}
use Rattle.viewer_session.proofs.Growing.{early, grown_bytes}
use Rattle.roles.specs.Held.{input_for}

-- ---- a look, and what forgets it

pub stands_without_look : (s : Setup) (st : State) (p : Viewer) → Stands s st p → Stands s st (without_look p)
stands_without_look s st p k = stands_look s st p None k

pub stands_after_look : (s : Setup) (st : State) (number : ℕ) (p : Viewer) → Stands s st p → Stands s st (after_look number p)
stands_after_look s st number p k = stands_saw s st p number k

-- ---- what the last cut counted

-- One update more leaves it so.
pub counted_more : (st : State) (us : List Update) (u : Update) → HasCounted st us → HasCounted st (us ++ u ∷ [])
counted_more st us u k = λ number e.
    let was = k number e in
    (omega (arith, was.0, length-append us (u ∷ [])), was.1 ∙ ap bells (sym (take-append-le number us (u ∷ []) was.0)))

pub place_more : (s : Setup) (us : List Update) (u : Update) (o : Option Held) (q : Option Viewer) → PlaceBy (PlaceStands s us) o q → PlaceBy (PlaceStands s (us ++ u ∷ [])) o q
place_more s us u None None k = k
place_more s us u None (Some p) k = k
place_more s us u (Some place) None k = k
place_more s us u (Some place) (Some p) k = record { session = k.session; unread = k.unread; marks = k.marks; counted = counted_more place.session us u k.counted; looked = k.looked; ready = k.ready; written = k.written }

-- So do updates that come to the same.
pub counted_in : (w h : ℕ) (st : State) (us vs : List Update) → AreSameFrom w h opening opening us vs → HasCounted st us → HasCounted st vs
counted_in w h st us vs same k = λ number e.
    let was = k number e in
    let kinds = sym (take-map bell_or_text number us) ∙ (ap (take number) same.kinds ∙ take-map bell_or_text number vs) in
    (omega (arith, was.0, same.count), was.1 ∙ same_bells (take number us) (take number vs) kinds)

-- So does what makes no cut.
pub counted_same : (before now : State) (us : List Update) → IsSameSession before now → HasCounted before us → HasCounted now us
counted_same before now us same k = λ number e.
    let was = k number (sym same.last ∙ e) in
    (was.0, ap (λ (cut : Cut). cut.bells) same.cut ∙ was.1)

-- ---- one place among all

pub place_is_some : (P : Held → Viewer → Type 0) (o : Option Held) (q : Option Viewer) (place : Held) → PlaceBy P o q → o ≡ Some place → (p : Viewer) × (q ≡ Some p) × P place p
place_is_some P None q place k e = absurd cc
place_is_some P (Some other) None place k e = absurd k
place_is_some P (Some other) (Some p) place k e = let same : other ≡ place = cc in (p, refl, subst (λ h. P h p) same k)

-- The place of one viewer changes, and so may that viewer.
places_set_if : (P : Held → Viewer → Type 0) (places : List (Option Held)) (viewers : ℕ → Option Viewer) (v u : ℕ) (place : Held) (p : Viewer) (is : Bool) → (u == v) ≡ is → v < length places
    → PlaceBy P (place_at places u) (viewers u) → P place p
    → PlaceBy P (place_at (slice_set places v (Some place)) u) (cond is (Some p) (viewers u))
places_set_if P places viewers v u place p true is room k good =
    let same : u ≡ v = eqb-true u v is in
    subst (λ (o : Option Held). PlaceBy P o (Some p)) (sym (ap (place_at (slice_set places v (Some place))) same ∙ get_or-set_same places v (Some place) None room)) good
places_set_if P places viewers v u place p false is room k good =
    subst (λ (o : Option Held). PlaceBy P o (viewers u)) (sym (get_or-set_other places v u (Some place) None (eqb-false u v is))) k

pub places_set : (P : Held → Viewer → Type 0) (places : List (Option Held)) (viewers : ℕ → Option Viewer) (v : ℕ) (place : Held) (p : Viewer) → v < length places
    → ((u : ℕ) → PlaceBy P (place_at places u) (viewers u)) → P place p
    → (u : ℕ) → PlaceBy P (place_at (slice_set places v (Some place)) u) (cond (u == v) (Some p) (viewers u))
places_set P places viewers v place p room k good u = places_set_if P places viewers v u place p (u == v) refl room (k u) good

place_changed_if : (P : Held → Viewer → Type 0) (places : List (Option Held)) (viewers : ℕ → Option Viewer) (v u : ℕ) (place : Held) (p : Viewer) (is : Bool) → (u == v) ≡ is → v < length places
    → PlaceBy P (place_at places u) (viewers u) → viewers v ≡ Some p → P place p
    → PlaceBy P (place_at (slice_set places v (Some place)) u) (viewers u)
place_changed_if P places viewers v u place p true is room k there good =
    let same : u ≡ v = eqb-true u v is in
    subst (λ (q : Option Viewer). PlaceBy P (place_at (slice_set places v (Some place)) u) q) (sym (ap viewers same ∙ there)) (places_set_if P places viewers v u place p true is room k good)
place_changed_if P places viewers v u place p false is room k there good = places_set_if P places viewers v u place p false is room k good

-- The place changes under the same viewer.
pub place_changed : (P : Held → Viewer → Type 0) (places : List (Option Held)) (viewers : ℕ → Option Viewer) (v : ℕ) (place : Held) (p : Viewer) → v < length places
    → ((u : ℕ) → PlaceBy P (place_at places u) (viewers u)) → viewers v ≡ Some p → P place p
    → (u : ℕ) → PlaceBy P (place_at (slice_set places v (Some place)) u) (viewers u)
place_changed P places viewers v place p room k there good u = place_changed_if P places viewers v u place p (u == v) refl room (k u) there good

-- What stands is seen.
pub place_seen : (s : Setup) (us : List Update) (o : Option Held) (q : Option Viewer) → PlaceBy (PlaceStands s us) o q → PlaceBy (PlaceShows s) o q
place_seen s us None None k = k
place_seen s us None (Some p) k = k
place_seen s us (Some place) None k = k
place_seen s us (Some place) (Some p) k = record { fault = fault_stands s place.session (at_rest p) k.session; written = k.written }

-- ---- what the steps of a viewer make of its place

-- What was left unread before is read again with the bytes after it.
abbrev leaving : Viewer → List ℕ → Viewer
leaving p left = record p { unread = left }

leaving_if : (left : List ℕ) (b : Bool) (x y p q : Viewer) → x ≡ leaving p left → y ≡ leaving q left → cond b x y ≡ leaving (cond b p q) left
leaving_if left true x y p q e f = e
leaving_if left false x y p q e f = f

leaving_input : (left : List ℕ) (p : Viewer) (o : Option Input) → with_input (leaving p left) o ≡ leaving (with_input p o) left
leaving_input left p None = refl
leaving_input left p (Some input) = leaving_if left (passes p.keys input) _ _ _ _ refl refl

leaving_reading : (s : Setup) (left : List ℕ) (p : Viewer) (r : Reading ClientMessage) → after_reading (leaving p left) r ≡ leaving (after_reading p r) left
leaving_reading s left p (Done m) =
    leaving_input left (record p { entries = Took (marked p.lost m).0 ∷ p.entries; lost = (marked p.lost m).1; reading = client_message }) (input_for p.role (marked p.lost m).0)
leaving_reading s left p (Faulty f) = refl
leaving_reading s left p (Want more) = refl

leaving_byte : (s : Setup) (left : List ℕ) (p : Viewer) (b : ℕ) → after_byte (leaving p left) b ≡ leaving (after_byte p b) left
leaving_byte s left p b =
    leaving_if left (wants_more p.hello) _ _ _ _ refl (leaving_if left (is_some (viewer_fault p)) _ _ _ _ refl (leaving_reading s left p (step p.reading b)))

unread_apart_if : (s : Setup) (left : List ℕ) (p : Viewer) (b : ℕ) (bs : List ℕ) (w : Bool) → after_bytes (after_byte (leaving p left) b) bs ≡ after_bytes (after_byte p b) bs
    → cond w (leaving p (b ∷ bs)) (after_bytes (after_byte (leaving p left) b) bs) ≡ cond w (leaving p (b ∷ bs)) (after_bytes (after_byte p b) bs)
unread_apart_if s left p b bs true e = refl
unread_apart_if s left p b bs false e = e

unread_apart : (s : Setup) (left : List ℕ) (p : Viewer) (bs : List ℕ) → after_bytes (leaving p left) bs ≡ after_bytes p bs
unread_apart s left p [] = refl
unread_apart s left p (b ∷ bs) =
    unread_apart_if s left p b bs (is_some p.waiting) (ap (λ t. after_bytes t bs) (leaving_byte s left p b) ∙ unread_apart s left (after_byte p b) bs)

-- The viewer's bytes as its session sees them.
fed_is : (s : Setup) (p : Viewer) (marks : List Bool) (unread bytes : List ℕ) → unread ≡ p.unread → p.lost ≡ []
    → after_bytes (record p { looked = None; lost = p.lost ++ marks }) (p.unread ++ bytes) ≡ after_bytes (with_marks marks (at_rest p)) (unread ++ bytes)
fed_is s p marks unread bytes same none =
    ap (λ (ms : List Bool). after_bytes (with_marks (ms ++ marks) p) (p.unread ++ bytes)) none
    ∙ (ap (λ (us : List ℕ). after_bytes (with_marks marks p) (us ++ bytes)) (sym same) ∙ sym (unread_apart s [] (with_marks marks p) (unread ++ bytes)))

-- Its bytes came: the look is forgotten.
pub place_fed : (s : Setup) (us : List Update) (place : Held) (session : State) (p : Viewer) (marks : List Bool) (bytes unread : List ℕ) → PlaceStands s us place p
    → ((q : Viewer) → Stands s place.session q → StandsBut s session (after_bytes (with_marks marks q) (place.unread ++ bytes)) unread) → (HasCounted place.session us → HasCounted session us)
    → PlaceStands s us (record { session = session; looked = None; written = place.written; unread = unread }) (after_bytes (record p { looked = None; lost = p.lost ++ marks }) (p.unread ++ bytes))
place_fed s us place session p marks bytes unread k fed counted =
    let now : Viewer = with_marks marks (at_rest p) in
    let stands = fed (at_rest p) k.session in
    let grown = grown_bytes s now (place.unread ++ bytes) (early s place.session (at_rest p) k.session) in
    subst (λ q. PlaceStands s us (record { session = session; looked = None; written = place.written; unread = unread }) q) (sym (fed_is s p marks place.unread bytes k.unread k.marks))
    (record {
      session = stands.stands;
      unread = sym stands.unread;
      marks = stands.marks;
      counted = counted k.counted;
      looked = sym grown.looked;
      ready = λ no. absurd cc;
      written = k.written ∙ (sym (take-append-le p.written (out_bytes s p) grown.out.0 k.session.serves.written) ∙ (ap (take p.written) (sym grown.out.1) ∙ ap (λ n. take n (out_bytes s (after_bytes now (place.unread ++ bytes)))) (sym grown.written)));
    })

-- It looked, if it may.
abbrev pub looked_at : Setup → ℕ → Viewer → Viewer
looked_at s tally p = if may_look s p then after_look tally p else without_look p

place_looked_if : (s : Setup) (us : List Update) (place : Held) (p : Viewer) (tally : ℕ) (is : Bool) → PlaceStands s us place p → is_ready place.session ≡ is
    → PlaceStands s us (record place { looked = cond is (Some tally) None }) (cond is (after_look tally p) (without_look p))
place_looked_if s us place p tally true k e =
    record { session = stands_after_look s place.session tally (at_rest p) k.session; unread = k.unread; marks = k.marks; counted = k.counted; looked = refl; ready = λ yes. e; written = k.written }
place_looked_if s us place p tally false k e =
    record { session = stands_without_look s place.session (at_rest p) k.session; unread = k.unread; marks = k.marks; counted = k.counted; looked = refl; ready = λ no. absurd cc; written = k.written }

pub place_looked : (s : Setup) (us : List Update) (place : Held) (p : Viewer) (tally : ℕ) (ready : Bool) → PlaceStands s us place p → ready ≡ is_ready place.session → ready ≡ may_look s p
    → PlaceStands s us (record place { looked = if ready then Some tally else None }) (looked_at s tally p)
place_looked s us place p tally ready k e may = rw (← may) (place_looked_if s us place p tally ready k (sym e))

-- This many of its unsent bytes were written.
pub place_written : (s : Setup) (us : List Update) (place : Held) (session : State) (p : Viewer) (count : ℕ) → PlaceStands s us place p
    → Stands s session (after_writing (min count (length place.session.unsent)) (at_rest p)) → HasCounted session us
    → PlaceStands s us (record { session = session; looked = None; written = place.written ++ take (min count (length place.session.unsent)) place.session.unsent; unread = place.unread })
    (record p { looked = None; written = min (p.written + count) (length (out_bytes s p)) })
place_written s us place session p count k sent counted =
    let n : ℕ = min count (length place.session.unsent) in
    let left : length place.session.unsent ≡ length (out_bytes s p) - p.written = ap length k.session.serves.unsent ∙ length-drop p.written (out_bytes s p) in
    let count_is : min (p.written + count) (length (out_bytes s p)) ≡ p.written + n = omega (arith, k.session.serves.written) in
    subst (λ (w : ℕ). PlaceStands s us (record { session = session; looked = None; written = place.written ++ take n place.session.unsent; unread = place.unread }) (record p { looked = None; written = w })) (sym count_is)
    (record {
      session = stands_without_look s session (after_writing n (at_rest p)) sent;
      unread = k.unread;
      marks = k.marks;
      counted = counted;
      looked = refl;
      ready = λ no. absurd cc;
      written = ap (λ w. w ++ take n place.session.unsent) k.written ∙ ap (λ u. take p.written (out_bytes s p) ++ take n u) k.session.serves.unsent ∙ sym (take-add p.written n (out_bytes s p));
    })

-- It went on after its look: there was no reason to cut, or it cut.
pub place_stays : (s : Setup) (us : List Update) (place : Held) (session : State) (p : Viewer) → PlaceStands s us place p → Stands s session (without_look (at_rest p)) → HasCounted session us
    → PlaceStands s us (record { session = session; looked = None; written = place.written; unread = place.unread }) (record p { looked = None })
place_stays s us place session p k stands counted = record { session = stands; unread = k.unread; marks = k.marks; counted = counted; looked = refl; ready = λ no. absurd cc; written = k.written }

pub place_cut : (s : Setup) (us : List Update) (place : Held) (session : State) (p : Viewer) → PlaceStands s us place p → Stands s session (after_cut s us (at_rest p)) → HasCounted session us
    → PlaceStands s us (record { session = session; looked = None; written = place.written; unread = place.unread }) (after_cut s us p)
place_cut s us place session p k stands counted =
    record {
      session = stands;
      unread = k.unread;
      marks = k.marks;
      counted = counted;
      looked = refl;
      ready = λ no. absurd cc;
      written = k.written ∙ (sym (take-append-le p.written (out_bytes s p) (sent_at s.form s.w s.h s.host p.entries us) k.session.serves.written) ∙ ap (take p.written) (append_assoc (hello_of s p) p.said_after (sent_at s.form s.w s.h s.host p.entries us)));
    }

-- Its waiting input was taken, or none was.
pub place_sent : (s : Setup) (us : List Update) (place : Held) (session : State) (p : Viewer) → PlaceStands s us place p → Stands s session (without_input (without_look (at_rest p))) → HasCounted session us
    → PlaceStands s us (record { session = session; looked = None; written = place.written; unread = place.unread }) (record p { looked = None; waiting = None })
place_sent s us place session p k stands counted = record { session = stands; unread = k.unread; marks = k.marks; counted = counted; looked = refl; ready = λ no. absurd cc; written = k.written }

-- ---- free places

pub one_free : (places : List (Option Held)) (v : ℕ) → ((u : ℕ) → place_at places u ≡ None) → place_at (places ++ None ∷ []) v ≡ None
one_free [] zero k = refl
one_free [] (suc v) k = refl
one_free (o ∷ places) zero k = k 0
one_free (o ∷ places) (suc v) k = one_free places v (λ u. k (suc u))

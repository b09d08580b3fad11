-- A loop that feeds a piece to a decoder, step by step. `HostDecoder::feed` is such a loop.
use Rattle.std.proofs.Common.{◌≡◌, ℕ, ◌+◌, ◌≤◌, Bool, true, false, List, length, drop, ◌⊎◌, inl, inr, None, Result, Ok, Err, refl, sym, ap, subst, ◌∙◌, arith}
use Rattle.std.proofs.lemmas.List.{drop-drop, length-drop}
use Rattle.fault.specs.declared.kinds.Fault.{Fault}
use Rattle.fault.specs.declared.kinds.Fault.TheVariants.{Memory}
use Rattle.byte_reading.specs.Reading.{Reading, Faulty, after, taken, fault_of}
use Rattle.byte_reading.proofs.ReadingLaws.{faulty_is, faulty_is_not, none_left, none_wanted, wants_no_fault}
use Rattle.raster.specs.Screen.{Canvas}
use Rattle.painter.specs.Painter.{Painting}
use Rattle.rfb_wire.specs.ServerMessage.{ServerMessage}
use Rattle.host_decoder.specs.declared.state.HostState.{HostState}
use Rattle.host_decoder.specs.declared.state.HostState.TheVariants.{Fields, Pixels, Keeping, Passing, Whole, Failed}
use Rattle.host_decoder.specs.Decoder.{Decoding, Feeds, GoesOn, IsBehind, Stands, Uses, answered, is_open, is_refused}
use Rattle.host_decoder.proofs.Standing.{open_wants, closed_wants}

-- This many bytes of a piece were fed to what stood for r before.
abbrev pub HasFed : Painting → Painting → HostState → Canvas → Reading ServerMessage → List ℕ → ℕ → Type 0
HasFed old now state start r piece used = (is_refused state ≡ true) ⊎ ((next : Reading ServerMessage) × IsBehind r next piece used × Stands old.width old.height state start now next)

pub fed_none : (painter : Painting) (state : HostState) (start : Canvas) (r : Reading ServerMessage) (piece : List ℕ) → Stands painter.width painter.height state start painter r → HasFed painter painter state start r piece 0
fed_none painter state start r piece s = inr (r, record { says = refl; count = λ fine. omega arith }, s)

behind_more : (r mid next : Reading ServerMessage) (piece : List ℕ) (m n : ℕ) → fault_of mid ≡ None → IsBehind r mid piece m → IsBehind mid next (drop m piece) n → IsBehind r next piece (m + n)
behind_more r mid next piece m n fine g h =
    let there : drop n (drop m piece) ≡ drop (m + n) piece = drop-drop n m piece in
    record {
      says = g.says ∙ (h.says ∙ ap (after next) there);
      count = λ f. let c : taken next (drop n (drop m piece)) ≡ taken next (drop (m + n) piece) = ap (taken next) there in omega (arith, g.count fine, h.count f, c);
    }

-- Where memory was refused it failed so.
refused_is : (state : HostState) → is_refused state ≡ true → state ≡ Failed Memory
refused_is (Failed Memory) e = refl
refused_is _ e = absurd cc

pub refused_closed : (state : HostState) → is_refused state ≡ true → is_open state ≡ false
refused_closed state e = ap is_open (refused_is state e)

stands_behind : (old now new : Painting) (next : HostState) (start : Canvas) (r last : Reading ServerMessage) (piece : List ℕ) (used n : ℕ) → now.width ≡ old.width → now.height ≡ old.height → IsBehind r last piece (used + n)
    → GoesOn now new next start last → HasFed old new next start r piece (used + n)
stands_behind old now new next start r last piece used n ew eh b (inl e) = inl e
stands_behind old now new next start r last piece used n ew eh b (inr s) = inr (last, b, rw (ew, eh) at s)

-- One step more.
pub fed_more : (old now new : Painting) (state next : HostState) (start : Canvas) (r : Reading ServerMessage) (piece : List ℕ) (used n : ℕ) → now.width ≡ old.width → now.height ≡ old.height → is_open state ≡ true → HasFed old now state start r piece used
    → ((q : Reading ServerMessage) → Stands now.width now.height state start now q → Uses now new next start q (drop used piece) n) → HasFed old new next start r piece (used + n)
fed_more old now new state next start r piece used n ew eh o (inl e) step = let f : true ≡ false = sym o ∙ refused_closed state e in absurd cc
fed_more old now new state next start r piece used n ew eh o (inr s) step =
    let q : Reading ServerMessage = s.0 in
    let here : Stands now.width now.height state start now q = subst (λ (a : ℕ). Stands a now.height state start now q) (sym ew) (subst (λ (b : ℕ). Stands old.width b state start now q) (sym eh) s.2) in
    let u = step q here in
    let fine : fault_of q ≡ None = wants_no_fault q (open_wants old.width old.height state start now q o s.2) in
    stands_behind old now new next start r u.next piece used n ew eh (behind_more r q u.next piece used n fine s.1 u.behind_) u.goes_on

-- ---- what is answered

-- What was fed is over: no byte is wanted, or the piece has no more.
abbrev pub IsOver : HostState → List ℕ → ℕ → Type 0
IsOver state piece used = (is_open state ≡ false) ⊎ (length piece ≤ used)

is_over : (w h : ℕ) (state : HostState) (start : Canvas) (painter : Painting) (next : Reading ServerMessage) (piece : List ℕ) (used : ℕ) → Stands w h state start painter next → IsOver state piece used → (after next (drop used piece) ≡ next) × (taken next (drop used piece) ≡ 0)
is_over w h state start painter next piece used s (inl e) = none_wanted next (drop used piece) (closed_wants w h state start painter next e s)
is_over w h state start painter next piece used s (inr le) = none_left next (drop used piece) (omega (arith, length-drop used piece, le))

-- The decoder with this in it.
abbrev pub decoding : ℕ → ℕ → HostState → Decoding
decoding w h state = record { width = w; height = h; state = state }

-- It stands for what is read after the piece.
fine_answer : (w h : ℕ) (start : Canvas) (painter : Painting) (state : HostState) (r next : Reading ServerMessage) (piece : List ℕ) (used : ℕ) (answer : Result ℕ Fault) → after r piece ≡ next → (fault_of next ≡ None → taken r piece ≡ used) → fault_of next ≡ None
    → Stands w h state start painter next → answer ≡ Ok used → Feeds (decoding w h state) painter start r piece answer
fine_answer w h start painter state r next piece used answer says count fine s e = rw (e, says) (s, sym (count fine), fine)

open_answer : (w h : ℕ) (start : Canvas) (painter : Painting) (state : HostState) (r next : Reading ServerMessage) (piece : List ℕ) (used : ℕ) (answer : Result ℕ Fault) → is_open state ≡ true → after r piece ≡ next → (fault_of next ≡ None → taken r piece ≡ used)
    → Stands w h state start painter next → answer ≡ Ok used → Feeds (decoding w h state) painter start r piece answer
open_answer w h start painter state r next piece used answer o says count s e = fine_answer w h start painter state r next piece used answer says count (wants_no_fault next (open_wants w h state start painter next o s)) s e

is_answered : (w h : ℕ) (start : Canvas) (painter : Painting) (state : HostState) (r next : Reading ServerMessage) (piece : List ℕ) (used : ℕ) (answer : Result ℕ Fault) → after r piece ≡ next → (fault_of next ≡ None → taken r piece ≡ used) → Stands w h state start painter next
    → answer ≡ answered state used → Feeds (decoding w h state) painter start r piece answer
is_answered w h start painter (Fields fields) r next piece used answer says count s e = open_answer w h start painter (Fields fields) r next piece used answer refl says count s e
is_answered w h start painter (Pixels left reader) r next piece used answer says count s e = open_answer w h start painter (Pixels left reader) r next piece used answer refl says count s e
is_answered w h start painter (Keeping kept) r next piece used answer says count s e = open_answer w h start painter (Keeping kept) r next piece used answer refl says count s e
is_answered w h start painter (Passing what left) r next piece used answer says count s e = open_answer w h start painter (Passing what left) r next piece used answer refl says count s e
is_answered w h start painter (Whole event) r next piece used answer says count s e = fine_answer w h start painter (Whole event) r next piece used answer says count (ap fault_of s.reads) s e
is_answered w h start painter (Failed fault) r next piece used answer says count s e = rw (e, says ∙ s) (inr (refl, refl))

pub fed_answer : (old now : Painting) (state : HostState) (start : Canvas) (r : Reading ServerMessage) (piece : List ℕ) (used : ℕ) (answer : Result ℕ Fault) → HasFed old now state start r piece used → IsOver state piece used → answer ≡ answered state used
    → Feeds (decoding old.width old.height state) now start r piece answer
fed_answer old now state start r piece used answer (inl refused) over e = rw (e, refused_is state refused) (inl (refl, refl))
fed_answer old now state start r piece used answer (inr s) over e =
    let none = is_over old.width old.height state start now s.0 piece used s.2 over in
    is_answered old.width old.height start now state r s.0 piece used answer (s.1.says ∙ none.0) (λ fine. let c = s.1.count fine in omega (arith, c, none.1)) s.2 e

-- ---- where nothing more is read

pub refused_answer : (state : HostState) (used : ℕ) → is_refused state ≡ true → answered state used ≡ Err Memory
refused_answer state used e = ap (λ (s : HostState). answered s used) (refused_is state e)

open_or_closed : (b : Bool) → (b ≡ true → ⊥) → b ≡ false
open_or_closed true n = absurd (n refl)
open_or_closed false n = refl

pub faulty_closed : (w h : ℕ) (state : HostState) (start : Canvas) (painter : Painting) (fault : Fault) → Stands w h state start painter (Faulty fault) → is_open state ≡ false
faulty_closed w h state start painter fault s = open_or_closed (is_open state) (λ o. let e : false ≡ true = open_wants w h state start painter (Faulty fault) o s in absurd cc)

pub faulty_answer : (w h : ℕ) (state : HostState) (start : Canvas) (painter : Painting) (used : ℕ) (fault : Fault) → is_open state ≡ false → Stands w h state start painter (Faulty fault) → answered state used ≡ Err fault
faulty_answer w h (Whole event) start painter used fault o s = absurd (faulty_is_not fault s.message s.reads)
faulty_answer w h (Failed found) start painter used fault o s = ap (λ f. Err f) (sym (faulty_is fault found s))
faulty_answer w h _ start painter used fault o s = absurd cc

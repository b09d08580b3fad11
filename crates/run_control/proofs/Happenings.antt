-- What one happening after another makes of the doors: the laws of `law.rt` on whole runs.
use Rattle.std.proofs.Common.{◌≡◌, ℕ, zero, suc, Bool, true, false, List, [], ◌∷◌, set, Option, Some, None, refl, ap, sym, ◌∙◌, arith}
use Rattle.std.specs.Prelude.{slice_get, ◌&&◌}
use Rattle.std.proofs.lemmas.List.Elements.{All-head, All-tail}
use Rattle.run_control.specs.declared.doors.PlaceState.{PlaceState}
use Rattle.run_control.specs.declared.doors.PlaceState.TheVariants.{Free, Taken, Leaving}
use Rattle.run_control.specs.declared.doors.Entry.{Entry}
use Rattle.run_control.specs.declared.doors.Entry.TheVariants.{Open, Drained, Closed}
use Rattle.run_control.specs.declared.request.Request.TheVariants.{State, Drain, Undrain, End, Next, Call, Stop}
use Rattle.run_control.specs.Doors.{Standing, place_at, with_place, is_open, is_vacant, asks, is_asked, is_let_in, takes_if, after_coming, drained, undrained, ended, after_request}
use Rattle.run_control.specs.Runs.{Happening, Asked, Comes, Leaves, after_happening, after_all, NobodyComesInAfterAStop, Spares, WhoeverIsThereStays}

-- ---- one place and another

set_other : (ps : List PlaceState) (i j : ℕ) (p : PlaceState) → (j ≡ i → ⊥) → slice_get (set ps i p) j ≡ slice_get ps j
set_other [] i j p other = refl
set_other (x ∷ xs) zero zero p other = absurd (other refl)
set_other (x ∷ xs) zero (suc j) p other = refl
set_other (x ∷ xs) (suc i) zero p other = refl
set_other (x ∷ xs) (suc i) (suc j) p other = set_other xs i j p (λ e. other (ap suc e))

set_same : (ps : List PlaceState) (i : ℕ) (p q : PlaceState) → slice_get ps i ≡ Some q → slice_get (set ps i p) i ≡ Some p
set_same [] i p q e = absurd cc
set_same (x ∷ xs) zero p q e = refl
set_same (x ∷ xs) (suc i) p q e = set_same xs i p q e

place_other : (s : Standing) (n k : ℕ) (p : PlaceState) → (k ≡ n → ⊥) → place_at (with_place s n p) k ≡ place_at s k
place_other s zero k p other = refl
place_other s (suc n) zero p other = refl
place_other s (suc n) (suc k) p other = set_other s.places n k p (λ e. other (ap suc e))

place_same : (s : Standing) (n : ℕ) (p q : PlaceState) → place_at s n ≡ Some q → place_at (with_place s n p) n ≡ Some p
place_same s zero p q e = absurd cc
place_same s (suc n) p q e = set_same s.places n p q e

set_none : (ps : List PlaceState) (i : ℕ) (p : PlaceState) → slice_get ps i ≡ None → slice_get (set ps i p) i ≡ None
set_none [] i p e = refl
set_none (x ∷ xs) zero p e = absurd cc
set_none (x ∷ xs) (suc i) p e = set_none xs i p e

place_none : (s : Standing) (n : ℕ) (p : PlaceState) → place_at s n ≡ None → place_at (with_place s n p) n ≡ None
place_none s zero p e = refl
place_none s (suc n) p e = set_none s.places n p e

entry_same : (s : Standing) (n : ℕ) (p : PlaceState) → (with_place s n p).entry ≡ s.entry
entry_same s zero p = refl
entry_same s (suc n) p = refl

-- Two numbers of places are the same, or they aren't.
data Same (k n : ℕ) : Type 0 where
  Is : k ≡ n → Same k n
  Isnt : (k ≡ n → ⊥) → Same k n

next_same : (k n : ℕ) → Same k n → Same (suc k) (suc n)
next_same k n (Is e) = Is (ap suc e)
next_same k n (Isnt other) = Isnt (λ e. other (pred_same k n e)) where
  pred_same : (k n : ℕ) → suc k ≡ suc n → k ≡ n
  pred_same k n e = omega arith

same : (k n : ℕ) → Same k n
same zero zero = Is refl
same zero (suc n) = Isnt (λ e. absurd (omega arith))
same (suc k) zero = Isnt (λ e. absurd (omega arith))
same (suc k) (suc n) = next_same k n (same k n)

-- Who is let in says nothing of the places.
same_places : (s : Standing) (entry : Entry) (n : ℕ) → place_at (record s { entry = entry }) n ≡ place_at s n
same_places s entry zero = refl
same_places s entry (suc n) = refl

-- ---- a run that ends

ended_entry : (o : Option PlaceState) (s : Standing) (n : ℕ) → (ended o s n).entry ≡ s.entry
ended_entry None s n = refl
ended_entry (Some Free) s n = refl
ended_entry (Some Leaving) s n = refl
ended_entry (Some Taken) s n = entry_same s n Leaving

-- Nobody is let in where the run ends.
not_let_in : (s : Standing) (n : ℕ) → s.entry ≡ Closed → after_coming s n ≡ s
not_let_in s n e = ap (λ (entry : Entry). takes_if (is_open entry && is_vacant (place_at s n)) s n) e

still_closed : (s : Standing) (h : Happening) → s.entry ≡ Closed → (after_happening s h).entry ≡ Closed
still_closed s (Asked (State form)) e = e
still_closed s (Asked Drain) e = ap drained e
still_closed s (Asked Undrain) e = ap undrained e
still_closed s (Asked (End n)) e = ended_entry (place_at s n) s n ∙ e
still_closed s (Asked Next) e = e
still_closed s (Asked (Call role address)) e = e
still_closed s (Asked Stop) e = refl
still_closed s (Comes n) e = ap (λ (t : Standing). t.entry) (not_let_in s n e) ∙ e
still_closed s (Leaves n) e = entry_same s n Free ∙ e

-- `end` of a place leaves those without a viewer as they are.
ended_vacant : (s : Standing) (n k : ℕ) (o : Option PlaceState) → place_at s n ≡ o → place_at s k ≡ Some Free → place_at (ended o s n) k ≡ Some Free
ended_vacant s n k None e free = free
ended_vacant s n k (Some Free) e free = free
ended_vacant s n k (Some Leaving) e free = free
ended_vacant s n k (Some Taken) e free = place_other s n k Leaving (λ is. absurd (let both : Some Taken ≡ Some Free = sym e ∙ (ap (place_at s) (sym is) ∙ free) in cc)) ∙ free

left_vacant : (s : Standing) (n k : ℕ) → Same k n → place_at s k ≡ Some Free → place_at (with_place s n Free) k ≡ Some Free
left_vacant s n k (Is e) free = ap (place_at (with_place s n Free)) e ∙ place_same s n Free Free (ap (place_at s) (sym e) ∙ free)
left_vacant s n k (Isnt other) free = place_other s n k Free other ∙ free

still_vacant : (s : Standing) (h : Happening) (k : ℕ) → s.entry ≡ Closed → place_at s k ≡ Some Free → place_at (after_happening s h) k ≡ Some Free
still_vacant s (Asked (State form)) k e free = free
still_vacant s (Asked Drain) k e free = same_places s (drained s.entry) k ∙ free
still_vacant s (Asked Undrain) k e free = same_places s (undrained s.entry) k ∙ free
still_vacant s (Asked (End n)) k e free = ended_vacant s n k (place_at s n) refl free
still_vacant s (Asked Next) k e free = free
still_vacant s (Asked (Call role address)) k e free = free
still_vacant s (Asked Stop) k e free = same_places s Closed k ∙ free
still_vacant s (Comes n) k e free = ap (λ (t : Standing). place_at t k) (not_let_in s n e) ∙ free
still_vacant s (Leaves n) k e free = left_vacant s n k (same k n) free

all_closed : (s : Standing) (hs : List Happening) → s.entry ≡ Closed → (after_all s hs).entry ≡ Closed
all_closed s [] e = e
all_closed s (h ∷ hs) e = all_closed (after_happening s h) hs (still_closed s h e)

all_vacant : (s : Standing) (hs : List Happening) (k : ℕ) → s.entry ≡ Closed → place_at s k ≡ Some Free → place_at (after_all s hs) k ≡ Some Free
all_vacant s [] k e free = free
all_vacant s (h ∷ hs) k e free = all_vacant (after_happening s h) hs k (still_closed s h e) (still_vacant s h k e free)

asked_where_closed : (s : Standing) (k : ℕ) → s.entry ≡ Closed → place_at s k ≡ Some Taken → is_asked s k ≡ true
asked_where_closed s k e taken = ap (λ (entry : Entry). asks entry (place_at s k)) e ∙ ap (asks Closed) taken

pub nobody_comes_in : NobodyComesInAfterAStop
nobody_comes_in s hs =
    let closed = all_closed (after_request s Stop) hs refl in
    record {
      asked = λ k taken. asked_where_closed (after_all (after_request s Stop) hs) k closed taken;
      vacant = λ k free. all_vacant (after_request s Stop) hs k refl (same_places s Closed k ∙ free);
    }

-- ---- a viewer whom nobody asks to leave

is_asked_by : (s t : Standing) (n : ℕ) → t.entry ≡ s.entry → place_at t n ≡ place_at s n → is_asked s n ≡ false → is_asked t n ≡ false
is_asked_by s t n e p unasked = ap (λ (entry : Entry). asks entry (place_at t n)) e ∙ (ap (asks s.entry) p ∙ unasked)

drained_asks : (entry : Entry) (o : Option PlaceState) → asks entry o ≡ false → asks (drained entry) o ≡ false
drained_asks entry None unasked = refl
drained_asks entry (Some Free) unasked = refl
drained_asks entry (Some Leaving) unasked = unasked
drained_asks Open (Some Taken) unasked = refl
drained_asks Drained (Some Taken) unasked = refl
drained_asks Closed (Some Taken) unasked = unasked

undrained_asks : (entry : Entry) (o : Option PlaceState) → asks entry o ≡ false → asks (undrained entry) o ≡ false
undrained_asks entry None unasked = refl
undrained_asks entry (Some Free) unasked = refl
undrained_asks entry (Some Leaving) unasked = unasked
undrained_asks Open (Some Taken) unasked = refl
undrained_asks Drained (Some Taken) unasked = refl
undrained_asks Closed (Some Taken) unasked = unasked

ended_asks : (s : Standing) (k n : ℕ) (o : Option PlaceState) → (n ≡ k → ⊥) → is_asked s n ≡ false → is_asked (ended o s k) n ≡ false
ended_asks s k n None other unasked = unasked
ended_asks s k n (Some Free) other unasked = unasked
ended_asks s k n (Some Leaving) other unasked = unasked
ended_asks s k n (Some Taken) other unasked = is_asked_by s (with_place s k Leaving) n (entry_same s k Leaving) (place_other s k n Leaving other) unasked

-- One who is let in comes where nobody was, and viewers are let in.
taken_asks : (entry : Entry) (v : Bool) → (is_open entry && v) ≡ true → asks entry (Some Taken) ≡ false
taken_asks Open v e = refl
taken_asks Drained v e = refl
taken_asks Closed v e = absurd cc

never : (entry : Entry) → (is_open entry && false) ≡ true → ⊥
never Open e = absurd cc
never Drained e = absurd cc
never Closed e = absurd cc

vacant_is : (entry : Entry) (o : Option PlaceState) → (is_open entry && is_vacant o) ≡ true → o ≡ Some Free
vacant_is entry None e = absurd (never entry e)
vacant_is entry (Some Free) e = refl
vacant_is entry (Some Taken) e = absurd (never entry e)
vacant_is entry (Some Leaving) e = absurd (never entry e)

comes_asks : (s : Standing) (k n : ℕ) (b : Bool) → is_let_in s k ≡ b → Same n k → is_asked s n ≡ false → is_asked (takes_if b s k) n ≡ false
comes_asks s k n false e m unasked = unasked
comes_asks s k n true e (Isnt other) unasked = is_asked_by s (with_place s k Taken) n (entry_same s k Taken) (place_other s k n Taken other) unasked
comes_asks s k n true e (Is is) unasked =
    let there : place_at (with_place s k Taken) n ≡ Some Taken = ap (place_at (with_place s k Taken)) is ∙ place_same s k Taken Free (vacant_is s.entry (place_at s k) e) in
    ap (λ (entry : Entry). asks entry (place_at (with_place s k Taken) n)) (entry_same s k Taken) ∙ (ap (asks s.entry) there ∙ taken_asks s.entry (is_vacant (place_at s k)) e)

leaves_asks : (s : Standing) (k n : ℕ) (o : Option PlaceState) → place_at s k ≡ o → Same n k → is_asked s n ≡ false → is_asked (with_place s k Free) n ≡ false
leaves_asks s k n o e (Isnt other) unasked = is_asked_by s (with_place s k Free) n (entry_same s k Free) (place_other s k n Free other) unasked
leaves_asks s k n None e (Is is) unasked =
    let there : place_at (with_place s k Free) n ≡ None = ap (place_at (with_place s k Free)) is ∙ place_none s k Free e in
    ap (asks (with_place s k Free).entry) there
leaves_asks s k n (Some q) e (Is is) unasked =
    let there : place_at (with_place s k Free) n ≡ Some Free = ap (place_at (with_place s k Free)) is ∙ place_same s k Free q e in
    ap (asks (with_place s k Free).entry) there

still_spared : (s : Standing) (h : Happening) (n : ℕ) → Spares n h → is_asked s n ≡ false → is_asked (after_happening s h) n ≡ false
still_spared s (Asked (State form)) n spares unasked = unasked
still_spared s (Asked Drain) n spares unasked = ap (asks (drained s.entry)) (same_places s (drained s.entry) n) ∙ drained_asks s.entry (place_at s n) unasked
still_spared s (Asked Undrain) n spares unasked = ap (asks (undrained s.entry)) (same_places s (undrained s.entry) n) ∙ undrained_asks s.entry (place_at s n) unasked
still_spared s (Asked (End k)) n spares unasked = ended_asks s k n (place_at s k) (λ e. spares.0 (ap End (sym e))) unasked
still_spared s (Asked Next) n spares unasked = unasked
still_spared s (Asked (Call role address)) n spares unasked = unasked
still_spared s (Asked Stop) n spares unasked = absurd (spares.1 refl)
still_spared s (Comes k) n spares unasked = comes_asks s k n (is_let_in s k) refl (same n k) unasked
still_spared s (Leaves k) n spares unasked = leaves_asks s k n (place_at s k) refl (same n k) unasked

pub whoever_stays : WhoeverIsThereStays
whoever_stays s n [] spares unasked = unasked
whoever_stays s n (h ∷ hs) spares unasked =
    whoever_stays (after_happening s h) n hs (All-tail (Spares n) h hs spares) (still_spared s h n (All-head (Spares n) h hs spares) unasked)

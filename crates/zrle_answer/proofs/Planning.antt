-- Rectangles to which a run is added hold what they held, and the run.
use Rattle.std.proofs.Common.{◌≡◌, ℕ, zero, suc, ◌+◌, ◌<◌, ◌≤◌, Bool, true, false, List, [], ◌∷◌, ◌++◌, length, get_or, refl, sym, ap, ◌∙◌, subst, arith, length-append, inl, inr, ◌⊎◌}
use Rattle.std.specs.Prelude.{◌||◌, slice_set}
use Rattle.std.proofs.lemmas.Bool.{or_cases, cases_lt}
use Rattle.std.proofs.lemmas.List.{map-set, length-map, get_or-map, map-append}
use Rattle.std.proofs.Math.ListN.{length-set}
use Rattle.std.proofs.lemmas.List.Folds.{list_any-append}
use Rattle.raster.specs.declared.rect.Rect.{Rect}
use Rattle.raster.specs.Screen.{IsWithin, holds}
use Rattle.raster.proofs.Places.{Has, has_holds, holds_has}
use Rattle.raster.proofs.Spellings.{Each, each_append}
use Rattle.tiles.specs.Brings.{IsPart, BringTheDue, some_holds}
use Rattle.tiles.specs.Touched.{runs}
use Rattle.tiles.proofs.Brought.{runs_bring_the_due}
use Rattle.std.specs.List.{All}
use Rattle.zrle_answer.specs.Planned.{AddsArea, GoesOn, areas_of}
use Rattle.zrle_answer.specs.declared.plan.Planned.{Planned}

-- What holds of each is what holds at each place.
all_of_each : {A : Type 0} (P : A → Type 0) (xs : List A) → Each P xs → All P xs
all_of_each P [] h k d lt = absurd (omega arith)
all_of_each P (x ∷ xs) h zero d lt = h.0
all_of_each P (x ∷ xs) h (suc k) d lt = all_of_each P xs h.1 k d (omega arith)

-- ---- tests

or_by : (a b : Bool) → (a ≡ true) ⊎ (b ≡ true) → (a || b) ≡ true
or_by true b e = refl
or_by false b (inl e) = absurd cc
or_by false b (inr e) = e

same_test : (a b : Bool) → (a ≡ true → b ≡ true) → (b ≡ true → a ≡ true) → a ≡ b
same_test true true f g = refl
same_test true false f g = sym (f refl)
same_test false true f g = g refl
same_test false false f g = refl

or_false : (a : Bool) → (a || false) ≡ a
or_false true = refl
or_false false = refl

first_grows : (u a r more : Bool) → u ≡ (a || r) → (u || more) ≡ ((a || more) || r)
first_grows u true r more e = ap (λ b. b || more) e
first_grows u false true true e = ap (λ b. b || true) e
first_grows u false true false e = ap (λ b. b || false) e
first_grows u false false true e = ap (λ b. b || true) e
first_grows u false false false e = ap (λ b. b || false) e

other_grows : (a more now r : Bool) → now ≡ (more || r) → (a || now) ≡ ((a || more) || r)
other_grows true more now r e = refl
other_grows false more now r e = e

-- ---- one rectangle from two

-- A rectangle with the rows of another below it.
abbrev pub joined : Rect → Rect → Rect
joined above r = record { x = above.x; y = above.y; w = above.w; h = above.h + r.h }

in_one : (above r : Rect) (x y : ℕ) → GoesOn above r → Has (joined above r) x y → Has above x y ⊎ Has r x y
in_one above r x y k p =
    elim (cases_lt y (above.y + above.h)) [
      | inl higher ↦ inl (record { left = p.left; right = p.right; top = p.top; bottom = higher })
      | inr lower ↦ inr (record { left = omega (arith, k.x, p.left); right = omega (arith, k.x, k.w, p.right); top = omega (arith, k.y, lower); bottom = omega (arith, k.y, p.bottom) })
    ]

from_above : (above r : Rect) (x y : ℕ) → Has above x y → Has (joined above r) x y
from_above above r x y p = record { left = p.left; right = p.right; top = p.top; bottom = omega (arith, p.bottom) }

from_below : (above r : Rect) (x y : ℕ) → GoesOn above r → Has r x y → Has (joined above r) x y
from_below above r x y k p =
    record { left = omega (arith, k.x, p.left); right = omega (arith, k.x, k.w, p.right); top = omega (arith, k.y, p.top); bottom = omega (arith, k.y, p.bottom) }

joined_holds : (above r : Rect) (x y : ℕ) → GoesOn above r → holds (joined above r) x y ≡ (holds above x y || holds r x y)
joined_holds above r x y k =
    same_test (holds (joined above r) x y) (holds above x y || holds r x y)
    (λ e. elim (in_one above r x y k (has_holds (joined above r) x y e)) [
      | inl p ↦ or_by (holds above x y) (holds r x y) (inl (holds_has above x y p))
      | inr p ↦ or_by (holds above x y) (holds r x y) (inr (holds_has r x y p))
    ])
    (λ e. elim (or_cases (holds above x y) (holds r x y) e) [
      | inl p ↦ holds_has (joined above r) x y (from_above above r x y (has_holds above x y p))
      | inr p ↦ holds_has (joined above r) x y (from_below above r x y k (has_holds r x y p))
    ])

joined_part : (w h : ℕ) (above r : Rect) → GoesOn above r → IsPart w h above → IsPart w h r → IsPart w h (joined above r)
joined_part w h above r k p q =
    record { inside = record { across = p.inside.across; down = omega (arith, k.y, q.inside.down) }; wide = p.wide; high = omega (arith, p.high) }

-- ---- one of several

set_holds : (rs : List Rect) (k : ℕ) (u r d : Rect) (x y : ℕ) → k < length rs → holds u x y ≡ (holds (get_or rs k d) x y || holds r x y) → some_holds (slice_set rs k u) x y ≡ (some_holds rs x y || holds r x y)
set_holds [] k u r d x y lt e = absurd (omega (arith, lt))
set_holds (a ∷ rs) zero u r d x y lt e = first_grows (holds u x y) (holds a x y) (holds r x y) (some_holds rs x y) e
set_holds (a ∷ rs) (suc k) u r d x y lt e = other_grows (holds a x y) (some_holds rs x y) (some_holds (slice_set rs k u) x y) (holds r x y) (set_holds rs k u r d x y (omega (arith, lt)) e)

each_at : {A : Type 0} (P : A → Type 0) (xs : List A) (k : ℕ) (d : A) → k < length xs → Each P xs → P (get_or xs k d)
each_at P [] k d lt each = absurd (omega (arith, lt))
each_at P (x ∷ xs) zero d lt each = each.0
each_at P (x ∷ xs) (suc k) d lt each = each_at P xs k d (omega (arith, lt)) each.1

each_set : {A : Type 0} (P : A → Type 0) (xs : List A) (k : ℕ) (u : A) → Each P xs → P u → Each P (slice_set xs k u)
each_set P [] k u each p = tt
each_set P (x ∷ xs) zero u each p = (p, each.1)
each_set P (x ∷ xs) (suc k) u each p = (each.0, each_set P xs k u each.1 p)

-- ---- a run is added

-- A rectangle takes up the run that goes on with it.
pub run_joins : (plan : List Planned) (k : ℕ) (above new d : Planned) (r : Rect) → k < length plan → get_or plan k d ≡ above → GoesOn above.area r → new.area ≡ joined above.area r → AddsArea r plan (slice_set plan k new)
run_joins plan k above new d r lt is goes area =
    let rs : List Rect = areas_of plan in
    let inside : k < length rs = omega (arith, lt, length-map plan (λ (p : Planned). p.area)) in
    let there : get_or rs k d.area ≡ above.area = get_or-map (λ (p : Planned). p.area) plan k d d.area lt ∙ ap (λ (p : Planned). p.area) is in
    let now : areas_of (slice_set plan k new) ≡ slice_set rs k (joined above.area r) = map-set (λ (p : Planned). p.area) plan k new ∙ ap (slice_set rs k) area in
    record {
      holds = λ x y.
          ap (λ (all : List Rect). some_holds all x y) now
          ∙ set_holds rs k (joined above.area r) r d.area x y inside (joined_holds above.area r x y goes ∙ ap (λ (a : Rect). holds a x y || holds r x y) (sym there));
      parts = λ w h q each.
          subst (Each (IsPart w h)) (sym now)
          (each_set (IsPart w h) rs k (joined above.area r) each (joined_part w h above.area r goes (subst (IsPart w h) there (each_at (IsPart w h) rs k d.area inside each)) q));
      few = omega (arith, length-set plan k new);
    }

-- Or the run is one more rectangle.
pub run_comes : (plan : List Planned) (new : Planned) (r : Rect) → new.area ≡ r → AddsArea r plan (plan ++ new ∷ [])
run_comes plan new r area =
    let now : areas_of (plan ++ new ∷ []) ≡ areas_of plan ++ r ∷ [] = map-append (λ (p : Planned). p.area) plan (new ∷ []) ∙ ap (λ (a : Rect). areas_of plan ++ a ∷ []) area in
    record {
      holds = λ x y.
          ap (λ (all : List Rect). some_holds all x y) now
          ∙ (list_any-append (λ (a : Rect). holds a x y) (areas_of plan) (r ∷ []) ∙ ap (λ b. some_holds (areas_of plan) x y || b) (or_false (holds r x y)));
      parts = λ w h q each. subst (Each (IsPart w h)) (sym now) (each_append (IsPart w h) (areas_of plan) (r ∷ []) each (q, tt));
      few = omega (arith, length-append plan (new ∷ []));
    }

-- ---- run after run

-- So far the planned rectangles hold what the runs before do. They are no more than these.
pub record PlansSoFar (w h : ℕ) (area : Rect) (due : ℕ → Bool) (left : List Rect) (plan : List Planned) : Type 0 where
  pub holds : (x y : ℕ) → (some_holds (areas_of plan) x y || some_holds left x y) ≡ some_holds (runs w h area due) x y
  pub parts : Each (IsPart w h) (areas_of plan)
  pub few : length plan + length left ≤ length (runs w h area due)

pub plans_nothing : (w h : ℕ) (area : Rect) (due : ℕ → Bool) (left : List Rect) (plan : List Planned) → plan ≡ [] → left ≡ runs w h area due → PlansSoFar w h area due left plan
plans_nothing w h area due left plan none all =
    let begin : PlansSoFar w h area due (runs w h area due) [] = record { holds = λ x y. refl; parts = tt; few = omega arith } in
    subst (λ (rs : List Rect). PlansSoFar w h area due rs plan) (sym all) (subst (λ (ps : List Planned). PlansSoFar w h area due (runs w h area due) ps) (sym none) begin)

regrouped : (a r more all now : Bool) → now ≡ (a || r) → (a || (r || more)) ≡ all → (now || more) ≡ all
regrouped true r more all now e k = ap (λ b. b || more) e ∙ k
regrouped false r more all now e k = ap (λ b. b || more) e ∙ k

pub plans_more : (w h : ℕ) (area : Rect) (due : ℕ → Bool) (left rest : List Rect) (r : Rect) (plan new : List Planned) → left ≡ r ∷ rest → IsPart w h r → AddsArea r plan new → PlansSoFar w h area due left plan
    → PlansSoFar w h area due rest new
plans_more w h area due left rest r plan new is part adds so_far =
    let before : PlansSoFar w h area due (r ∷ rest) plan = subst (λ (rs : List Rect). PlansSoFar w h area due rs plan) is so_far in
    record {
      holds = λ x y. regrouped (some_holds (areas_of plan) x y) (holds r x y) (some_holds rest x y) (some_holds (runs w h area due) x y) (some_holds (areas_of new) x y) (adds.holds x y) (before.holds x y);
      parts = adds.parts w h part before.parts;
      few = omega (arith, adds.few, before.few);
    }

pub plans_all : (w h : ℕ) (area : Rect) (due : ℕ → Bool) (left : List Rect) (plan : List Planned) → w ≤ 4096 → h ≤ 4096 → IsWithin area w h → left ≡ [] → PlansSoFar w h area due left plan → BringTheDue w h area due (areas_of plan)
plans_all w h area due left plan lw lh on none so_far =
    let done : PlansSoFar w h area due [] plan = subst (λ (rs : List Rect). PlansSoFar w h area due rs plan) none so_far in
    let bring : BringTheDue w h area due (runs w h area due) = runs_bring_the_due w h area due lw lh on in
    record {
      exactly = λ t x y lt e. sym (or_false (some_holds (areas_of plan) x y)) ∙ (done.holds x y ∙ bring.exactly t x y lt e);
      parts = all_of_each (IsPart w h) (areas_of plan) done.parts;
      few = omega (arith, done.few, bring.few, length-map plan (λ (p : Planned). p.area));
    }

-- The planned rectangles lie on the largest screen.
pub plan_within : (w h : ℕ) (plan : List Planned) → w ≤ 4096 → h ≤ 4096 → Each (IsPart w h) (areas_of plan) → All (λ p. IsWithin p.area 4096 4096) plan
plan_within w h [] lw lh each k d lt = absurd (omega (arith, lt))
plan_within w h (p ∷ plan) lw lh each zero d lt = record { across = omega (arith, each.0.inside.across); down = omega (arith, each.0.inside.down) }
plan_within w h (p ∷ plan) lw lh each (suc k) d lt = plan_within w h plan lw lh each.1 k d (omega (arith, lt))

-- A part of a screen of one size is a part of one of the same size.
pub part_same : (v w k h : ℕ) (r : Rect) → v ≡ w → k ≡ h → IsPart v k r → IsPart w h r
part_same v w k h r across down part =
    record { inside = record { across = omega (arith, across, part.inside.across); down = omega (arith, down, part.inside.down) }; wide = part.wide; high = part.high }

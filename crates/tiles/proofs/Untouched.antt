-- What no later update touches looks as it did, and the last touch decides what is due. The law `untouched_stays` is
-- made of it.
use Rattle.std.proofs.Common.{◌≡◌, ℕ, zero, suc, ◌+◌, ◌<◌, ◌≤◌, Bool, true, false, cond, List, [], ◌∷◌, ◌++◌, take, drop, refl, ap, sym, ◌∙◌, arith}
use Rattle.std.specs.Prelude.{nat_lt, ◌||◌}
use Rattle.std.specs.List.{list_any}
use Rattle.std.proofs.lemmas.Bool.{lt-ltb, le-ltb}
use Rattle.std.proofs.lemmas.List.{take-append-drop}
use Rattle.raster.specs.declared.rect.Rect.{Rect}
use Rattle.raster.specs.Screen.{Canvas, opening}
use Rattle.raster.specs.Update.{Update, paints_of, after_paints, after_updates, screen}
use Rattle.raster.proofs.Places.{Has, has_holds}
use Rattle.tiles.specs.Touched.{touches, last_touch_from}
use Rattle.tiles.specs.Brings.{UntouchedStays, DueWhereTouched}
use Rattle.tiles.proofs.Touching.{or_left, or_right, same_after_paints}

-- ---- the last touch

no_lower_if : (r : Rect) (b : Bool) (last next : ℕ) (us : List Update) → last < next → ((l : ℕ) → l < next + 1 → l ≤ last_touch_from r l (next + 1) us) → last ≤ last_touch_from r (cond b next last) (next + 1) us
no_lower_if r true last next us lt f = omega (arith, f next (omega arith))
no_lower_if r false last next us lt f = f last (omega arith)

no_lower : (r : Rect) (last next : ℕ) (us : List Update) → last < next → last ≤ last_touch_from r last next us
no_lower r last next [] lt = omega arith
no_lower r last next (u ∷ us) lt = no_lower_if r (touches r u) last next us lt (λ l lt2. no_lower r l (next + 1) us lt2)

above_if : (r : Rect) (b : Bool) (last next m : ℕ) (us : List Update) → m < next → list_any (touches r) us ≡ nat_lt m (last_touch_from r last (next + 1) us)
    → (b || list_any (touches r) us) ≡ nat_lt m (last_touch_from r (cond b next last) (next + 1) us)
above_if r true last next m us lt e = sym (lt-ltb m (last_touch_from r next (next + 1) us) (omega (arith, no_lower r next (next + 1) us (omega arith))))
above_if r false last next m us lt e = e

-- Of updates numbered from next on one touches where the last touch is above a number that is below next and not below
-- last.
touched_above : (r : Rect) (last next m : ℕ) (us : List Update) → last ≤ m → m < next → list_any (touches r) us ≡ nat_lt m (last_touch_from r last next us)
touched_above r last next m [] le lt = sym (le-ltb m last le)
touched_above r last next m (u ∷ us) le lt = above_if r (touches r u) last next m us lt (touched_above r last (next + 1) m us le (omega arith))

below_next : (b : Bool) (last next : ℕ) → last < next → cond b next last < next + 1
below_next true last next lt = omega arith
below_next false last next lt = omega arith

touched_behind : (r : Rect) (last next k m : ℕ) (us : List Update) → last < next → next + k ≡ suc m → list_any (touches r) (drop k us) ≡ nat_lt m (last_touch_from r last next us)
touched_behind r last next zero m us lt e = touched_above r last next m us (omega arith) (omega arith)
touched_behind r last next (suc k) m [] lt e = sym (le-ltb m last (omega arith))
touched_behind r last next (suc k) m (u ∷ us) lt e = touched_behind r (cond (touches r u) next last) (next + 1) k m us (below_next (touches r u) last next lt) (omega arith)

pub due_where_touched : DueWhereTouched
due_where_touched r us n = touched_behind r 0 1 n n us (omega arith) (omega arith)

-- ---- what stays

after_updates-append : (s : Canvas) (us vs : List Update) → after_updates s (us ++ vs) ≡ after_updates (after_updates s us) vs
after_updates-append s [] vs = refl
after_updates-append s (u ∷ us) vs = after_updates-append (after_paints s (paints_of u)) us vs

same_after : (s : Canvas) (us : List Update) (r : Rect) (x y : ℕ) → list_any (touches r) us ≡ false → Has r x y → after_updates s us x y ≡ s x y
same_after s [] r x y m p = refl
same_after s (u ∷ us) r x y m p =
    same_after (after_paints s (paints_of u)) us r x y (or_right (touches r u) (list_any (touches r) us) m) p
    ∙ same_after_paints s (paints_of u) r x y (or_left (touches r u) (list_any (touches r) us) m) p

pub untouched_stays : UntouchedStays
untouched_stays r us n x y le e =
    let none : list_any (touches r) (drop n us) ≡ false = due_where_touched r us n ∙ le-ltb _ _ le in
    ap (λ q. screen q x y) (sym (take-append-drop n us))
    ∙ (ap (λ (c : Canvas). c x y) (after_updates-append opening (take n us) (drop n us))
    ∙ same_after (screen (take n us)) (drop n us) r x y none (has_holds r x y e))

-- What is lacked stays so, and what comes to be lacked is touched. The laws `lacked_is_touched` and `passing_goes_on`
-- are made of it.
use Rattle.std.proofs.Common.{◌≡◌, ℕ, Bool, true, false, cond, List, [], ◌∷◌, ◌++◌, refl, ap, sym, ◌∙◌}
use Rattle.std.specs.Prelude.{◌||◌}
use Rattle.std.specs.List.{list_any}
use Rattle.raster.specs.declared.rect.Rect.{Rect}
use Rattle.raster.specs.Screen.{meets, tile_rect}
use Rattle.raster.specs.Update.{Paint, Put, Copy, Resized, Update, everything, painted, paints_of}
use Rattle.tiles.specs.Touched.{touches}
use Rattle.copy_log.specs.Passed.{Passed, can_pass, lacking, passed, passed_after, passed_after_paint, passed_after_paints, some_touch, with_copy}
use Rattle.copy_log.specs.KeepsUp.{LackedIsTouched, LackedStays, PassingGoesOn}

stays_copy : (w h : ℕ) (p : Passed) (r : Rect) (q : Paint) (t : ℕ) (b : Bool) → p.lacks t ≡ true → (cond b (with_copy p q) (lacking w h p r)).lacks t ≡ true
stays_copy w h p r q t true e = e
stays_copy w h p r q t false e = ap (λ b. b || meets r (tile_rect w h t)) e

stays_paint : (w h : ℕ) (area : Rect) (p : Passed) (q : Paint) (t : ℕ) → p.lacks t ≡ true → (passed_after_paint w h area p q).lacks t ≡ true
stays_paint w h area p (Put r colours) t e = ap (λ b. b || meets r (tile_rect w h t)) e
stays_paint w h area p (Copy r sx sy) t e = stays_copy w h p r (Copy r sx sy) t (can_pass w h area p.lacks r sx sy) e
stays_paint w h area p (Resized size) t e = ap (λ b. b || meets everything (tile_rect w h t)) e

stays_paints : (w h : ℕ) (area : Rect) (p : Passed) (qs : List Paint) (t : ℕ) → p.lacks t ≡ true → (passed_after_paints w h area p qs).lacks t ≡ true
stays_paints w h area p [] t e = e
stays_paints w h area p (q ∷ qs) t e = stays_paints w h area (passed_after_paint w h area p q) qs t (stays_paint w h area p q t e)

stays_updates : (w h : ℕ) (area : Rect) (p : Passed) (us : List Update) (t : ℕ) → p.lacks t ≡ true → (passed_after w h area p us).lacks t ≡ true
stays_updates w h area p [] t e = e
stays_updates w h area p (u ∷ us) t e = stays_updates w h area (passed_after_paints w h area p (paints_of u)) us t (stays_paints w h area p (paints_of u) t e)

pub lacked_stays : LackedStays
lacked_stays w h area lacks us t e = stays_updates w h area (record { copies = []; lacks = lacks }) us t e

-- ---- what comes to be lacked

-- What a paint doesn't touch is lacked afterwards only where it was before.
untouched_copy : (w h : ℕ) (p : Passed) (r : Rect) (q : Paint) (t : ℕ) (b : Bool) → meets r (tile_rect w h t) ≡ false → p.lacks t ≡ false → (cond b (with_copy p q) (lacking w h p r)).lacks t ≡ false
untouched_copy w h p r q t true m e = e
untouched_copy w h p r q t false m e = ap (λ b. b || meets r (tile_rect w h t)) e ∙ m

untouched_paint : (w h : ℕ) (area : Rect) (p : Passed) (q : Paint) (t : ℕ) → meets (painted q) (tile_rect w h t) ≡ false → p.lacks t ≡ false → (passed_after_paint w h area p q).lacks t ≡ false
untouched_paint w h area p (Put r colours) t m e = ap (λ b. b || meets r (tile_rect w h t)) e ∙ m
untouched_paint w h area p (Copy r sx sy) t m e = untouched_copy w h p r (Copy r sx sy) t (can_pass w h area p.lacks r sx sy) m e
untouched_paint w h area p (Resized size) t m e = ap (λ b. b || meets everything (tile_rect w h t)) e ∙ m

or_false : (a b : Bool) → (a || b) ≡ false → (a ≡ false) × (b ≡ false)
or_false true b e = absurd cc
or_false false b e = (refl, e)

untouched_paints : (w h : ℕ) (area : Rect) (p : Passed) (qs : List Paint) (t : ℕ) → some_touch w h qs t ≡ false → p.lacks t ≡ false → (passed_after_paints w h area p qs).lacks t ≡ false
untouched_paints w h area p [] t m e = e
untouched_paints w h area p (q ∷ qs) t m e =
    let parts = or_false (meets (painted q) (tile_rect w h t)) (some_touch w h qs t) m in
    untouched_paints w h area (passed_after_paint w h area p q) qs t parts.1 (untouched_paint w h area p q t parts.0 e)

untouched_updates : (w h : ℕ) (area : Rect) (p : Passed) (us : List Update) (t : ℕ) → list_any (touches (tile_rect w h t)) us ≡ false → p.lacks t ≡ false → (passed_after w h area p us).lacks t ≡ false
untouched_updates w h area p [] t m e = e
untouched_updates w h area p (u ∷ us) t m e =
    let parts = or_false (touches (tile_rect w h t) u) (list_any (touches (tile_rect w h t)) us) m in
    untouched_updates w h area (passed_after_paints w h area p (paints_of u)) us t parts.1 (untouched_paints w h area p (paints_of u) t parts.0 e)

true_if : (a b : Bool) → (a ≡ false → b ≡ false) → b ≡ true → a ≡ true
true_if true b f e = refl
true_if false b f e = sym (f refl) ∙ e

pub lacked_is_touched : LackedIsTouched
lacked_is_touched w h area lacks us t e lacked =
    true_if (list_any (touches (tile_rect w h t)) us) ((passed w h area lacks us).lacks t) (λ m. untouched_updates w h area (record { copies = []; lacks = lacks }) us t m e) lacked

-- ---- one update after another

pub passed_after-append : (w h : ℕ) (area : Rect) (p : Passed) (us vs : List Update) → passed_after w h area p (us ++ vs) ≡ passed_after w h area (passed_after w h area p us) vs
passed_after-append w h area p [] vs = refl
passed_after-append w h area p (u ∷ us) vs = passed_after-append w h area (passed_after_paints w h area p (paints_of u)) us vs

pub passing_goes_on : PassingGoesOn
passing_goes_on w h area lacks us vs = passed_after-append w h area (record { copies = []; lacks = lacks }) us vs

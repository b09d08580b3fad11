-- Where the copies that are passed on lie, what they leave alone, and what is lacked where there are none. The laws
-- `copies_lie_in`, `copies_stay_off`, `touched_is_lacked` and `lacking_same` are made of it.
use Rattle.std.proofs.Common.{◌≡◌, ℕ, ◌+◌, ◌-◌, Bool, true, false, cond, List, [], ◌∷◌, ◌++◌, Option, refl, ap, sym, ◌∙◌}
use Rattle.std.specs.Prelude.{◌&&◌, ◌||◌}
use Rattle.std.specs.List.{All, list_any}
use Rattle.std.proofs.lemmas.Bool.{and_parts}
use Rattle.std.proofs.lemmas.List.Elements.{All-append, All-cons, All-nil}
use Rattle.raster.specs.declared.rect.Rect.{Rect}
use Rattle.raster.specs.Screen.{Map, holds, lies_in, meets, tile_rect}
use Rattle.raster.specs.Update.{Paint, Put, Copy, Resized, Update, painted, paints_of}
use Rattle.raster.proofs.Places.{Has, has_holds, meets_at}
use Rattle.tiles.specs.Touched.{touches}
use Rattle.tiles.proofs.Touching.{or_left, or_right}
use Rattle.copy_log.specs.Passed.{IsSamePassed, Passed, can_pass, is_held, lacking, passed_after, passed_after_paint, passed_after_paints, some_touch, source_of, with_copy}
use Rattle.copy_log.specs.KeepsUp.{CopiesLieIn, CopiesStayOff, CopyLiesIn, LackingSame, TouchedIsLacked, moved}
use Rattle.copy_log.proofs.Keeping.{moved-more}
use Rattle.copy_log.proofs.Same.{same_paints}

-- ---- where copies lie

lie_copy : (w h : ℕ) (area : Rect) (p : Passed) (r : Rect) (sx sy : ℕ) (b : Bool) → can_pass w h area p.lacks r sx sy ≡ b → All (CopyLiesIn area) p.copies
    → All (CopyLiesIn area) (cond b (with_copy p (Copy r sx sy)) (lacking w h p r)).copies
lie_copy w h area p r sx sy true can on =
    let parts = and_parts (lies_in r area && lies_in (source_of r sx sy) area) (is_held w h p.lacks (source_of r sx sy)) can in
    All-append (CopyLiesIn area) p.copies (Copy r sx sy ∷ []) on
    (All-cons (CopyLiesIn area) (Copy r sx sy) [] (and_parts (lies_in r area) (lies_in (source_of r sx sy) area) parts.0) (All-nil (CopyLiesIn area)))
lie_copy w h area p r sx sy false can on = on

lie_paint : (w h : ℕ) (area : Rect) (p : Passed) (q : Paint) → All (CopyLiesIn area) p.copies → All (CopyLiesIn area) (passed_after_paint w h area p q).copies
lie_paint w h area p (Put r colours) on = on
lie_paint w h area p (Copy r sx sy) on = lie_copy w h area p r sx sy (can_pass w h area p.lacks r sx sy) refl on
lie_paint w h area p (Resized size) on = on

lie_paints : (w h : ℕ) (area : Rect) (p : Passed) (qs : List Paint) → All (CopyLiesIn area) p.copies → All (CopyLiesIn area) (passed_after_paints w h area p qs).copies
lie_paints w h area p [] on = on
lie_paints w h area p (q ∷ qs) on = lie_paints w h area (passed_after_paint w h area p q) qs (lie_paint w h area p q on)

lie_updates : (w h : ℕ) (area : Rect) (p : Passed) (us : List Update) → All (CopyLiesIn area) p.copies → All (CopyLiesIn area) (passed_after w h area p us).copies
lie_updates w h area p [] on = on
lie_updates w h area p (u ∷ us) on = lie_updates w h area (passed_after_paints w h area p (paints_of u)) us (lie_paints w h area p (paints_of u) on)

pub copies_lie_in : CopiesLieIn
copies_lie_in w h area lacks us = lie_updates w h area (record { copies = []; lacks = lacks }) us (All-nil (CopyLiesIn area))

-- ---- what copies leave alone

off_one : (held before : Map (Option ℕ)) (r s : Rect) (sx sy x y : ℕ) (b : Bool) → holds r x y ≡ b → meets r s ≡ false → Has s x y → before x y ≡ held x y
    → cond b (before (sx + (x - r.x)) (sy + (y - r.y))) (before x y) ≡ held x y
off_one held before r s sx sy x y true e m here is = let both : true ≡ false = sym (meets_at r s x y (has_holds r x y e) here) ∙ m in absurd cc
off_one held before r s sx sy x y false e m here is = is

off_copy : (w h : ℕ) (held : Map (Option ℕ)) (p : Passed) (r : Rect) (sx sy t x y : ℕ) (b : Bool) → meets r (tile_rect w h t) ≡ false → Has (tile_rect w h t) x y
    → moved held p.copies x y ≡ held x y → moved held (cond b (with_copy p (Copy r sx sy)) (lacking w h p r)).copies x y ≡ held x y
off_copy w h held p r sx sy t x y true m here is =
    ap (λ (f : Map (Option ℕ)). f x y) (moved-more held p.copies r sx sy) ∙ off_one held (moved held p.copies) r (tile_rect w h t) sx sy x y (holds r x y) refl m here is
off_copy w h held p r sx sy t x y false m here is = is

off_paint : (w h : ℕ) (area : Rect) (held : Map (Option ℕ)) (p : Passed) (q : Paint) (t x y : ℕ) → meets (painted q) (tile_rect w h t) ≡ false → Has (tile_rect w h t) x y
    → moved held p.copies x y ≡ held x y → moved held (passed_after_paint w h area p q).copies x y ≡ held x y
off_paint w h area held p (Put r colours) t x y m here is = is
off_paint w h area held p (Copy r sx sy) t x y m here is = off_copy w h held p r sx sy t x y (can_pass w h area p.lacks r sx sy) m here is
off_paint w h area held p (Resized size) t x y m here is = is

off_paints : (w h : ℕ) (area : Rect) (held : Map (Option ℕ)) (p : Passed) (qs : List Paint) (t x y : ℕ) → some_touch w h qs t ≡ false → Has (tile_rect w h t) x y
    → moved held p.copies x y ≡ held x y → moved held (passed_after_paints w h area p qs).copies x y ≡ held x y
off_paints w h area held p [] t x y m here is = is
off_paints w h area held p (q ∷ qs) t x y m here is =
    off_paints w h area held (passed_after_paint w h area p q) qs t x y (or_right (meets (painted q) (tile_rect w h t)) (some_touch w h qs t) m) here
    (off_paint w h area held p q t x y (or_left (meets (painted q) (tile_rect w h t)) (some_touch w h qs t) m) here is)

off_updates : (w h : ℕ) (area : Rect) (held : Map (Option ℕ)) (p : Passed) (us : List Update) (t x y : ℕ) → list_any (touches (tile_rect w h t)) us ≡ false → Has (tile_rect w h t) x y
    → moved held p.copies x y ≡ held x y → moved held (passed_after w h area p us).copies x y ≡ held x y
off_updates w h area held p [] t x y m here is = is
off_updates w h area held p (u ∷ us) t x y m here is =
    off_updates w h area held (passed_after_paints w h area p (paints_of u)) us t x y (or_right (touches (tile_rect w h t) u) (list_any (touches (tile_rect w h t)) us) m) here
    (off_paints w h area held p (paints_of u) t x y (or_left (touches (tile_rect w h t) u) (list_any (touches (tile_rect w h t)) us) m) here is)

pub copies_stay_off : CopiesStayOff
copies_stay_off w h area lacks held us t x y m here =
    off_updates w h area held (record { copies = []; lacks = lacks }) us t x y m (has_holds (tile_rect w h t) x y here) refl

-- ---- what is lacked where there are no copies

no_more : (cs : List Paint) (c : Paint) → cs ++ c ∷ [] ≡ [] → cs ≡ []
no_more [] c e = refl
no_more (d ∷ cs) c e = absurd cc

never_one : (cs : List Paint) (c : Paint) → cs ++ c ∷ [] ≡ [] → true ≡ false
never_one [] c e = absurd cc
never_one (d ∷ cs) c e = absurd cc

-- Before one more paint no copy was passed on either.
none_copy : (w h : ℕ) (p : Passed) (r : Rect) (c : Paint) (b : Bool) → (cond b (with_copy p c) (lacking w h p r)).copies ≡ [] → p.copies ≡ []
none_copy w h p r c true e = no_more p.copies c e
none_copy w h p r c false e = e

none_paint : (w h : ℕ) (area : Rect) (p : Passed) (q : Paint) → (passed_after_paint w h area p q).copies ≡ [] → p.copies ≡ []
none_paint w h area p (Put r colours) e = e
none_paint w h area p (Copy r sx sy) e = none_copy w h p r (Copy r sx sy) (can_pass w h area p.lacks r sx sy) e
none_paint w h area p (Resized size) e = e

none_paints : (w h : ℕ) (area : Rect) (p : Passed) (qs : List Paint) → (passed_after_paints w h area p qs).copies ≡ [] → p.copies ≡ []
none_paints w h area p [] e = e
none_paints w h area p (q ∷ qs) e = none_paint w h area p q (none_paints w h area (passed_after_paint w h area p q) qs e)

none_updates : (w h : ℕ) (area : Rect) (p : Passed) (us : List Update) → (passed_after w h area p us).copies ≡ [] → p.copies ≡ []
none_updates w h area p [] e = e
none_updates w h area p (u ∷ us) e = none_paints w h area p (paints_of u) (none_updates w h area (passed_after_paints w h area p (paints_of u)) us e)

-- A paint that isn't passed on leaves all lacked that it touches.
touch_copy : (w h : ℕ) (p : Passed) (r : Rect) (c : Paint) (t : ℕ) (b : Bool) → (cond b (with_copy p c) (lacking w h p r)).copies ≡ []
    → (cond b (with_copy p c) (lacking w h p r)).lacks t ≡ (p.lacks t || meets r (tile_rect w h t))
touch_copy w h p r c t true e = let never : true ≡ false = never_one p.copies c e in absurd cc
touch_copy w h p r c t false e = refl

touch_paint : (w h : ℕ) (area : Rect) (p : Passed) (q : Paint) (t : ℕ) → (passed_after_paint w h area p q).copies ≡ []
    → (passed_after_paint w h area p q).lacks t ≡ (p.lacks t || meets (painted q) (tile_rect w h t))
touch_paint w h area p (Put r colours) t e = refl
touch_paint w h area p (Copy r sx sy) t e = touch_copy w h p r (Copy r sx sy) t (can_pass w h area p.lacks r sx sy) e
touch_paint w h area p (Resized size) t e = refl

or_assoc : (a b c : Bool) → ((a || b) || c) ≡ (a || (b || c))
or_assoc true b c = refl
or_assoc false b c = refl

or_nothing : (a : Bool) → a ≡ (a || false)
or_nothing true = refl
or_nothing false = refl

touch_paints : (w h : ℕ) (area : Rect) (p : Passed) (qs : List Paint) (t : ℕ) → (passed_after_paints w h area p qs).copies ≡ []
    → (passed_after_paints w h area p qs).lacks t ≡ (p.lacks t || some_touch w h qs t)
touch_paints w h area p [] t e = or_nothing (p.lacks t)
touch_paints w h area p (q ∷ qs) t e =
    let next : Passed = passed_after_paint w h area p q in
    touch_paints w h area next qs t e
    ∙ (ap (λ b. b || some_touch w h qs t) (touch_paint w h area p q t (none_paints w h area next qs e))
    ∙ or_assoc (p.lacks t) (meets (painted q) (tile_rect w h t)) (some_touch w h qs t))

touch_updates : (w h : ℕ) (area : Rect) (p : Passed) (us : List Update) (t : ℕ) → (passed_after w h area p us).copies ≡ []
    → (passed_after w h area p us).lacks t ≡ (p.lacks t || list_any (touches (tile_rect w h t)) us)
touch_updates w h area p [] t e = or_nothing (p.lacks t)
touch_updates w h area p (u ∷ us) t e =
    let next : Passed = passed_after_paints w h area p (paints_of u) in
    touch_updates w h area next us t e
    ∙ (ap (λ b. b || list_any (touches (tile_rect w h t)) us) (touch_paints w h area p (paints_of u) t (none_updates w h area next us e))
    ∙ or_assoc (p.lacks t) (touches (tile_rect w h t) u) (list_any (touches (tile_rect w h t)) us))

pub touched_is_lacked : TouchedIsLacked
touched_is_lacked w h area lacks us t none is = touch_updates w h area (record { copies = []; lacks = lacks }) us t none ∙ is

-- ---- the same

pub same_updates : (w h : ℕ) (area : Rect) (p q : Passed) (us : List Update) → IsSamePassed w h p q → IsSamePassed w h (passed_after w h area p us) (passed_after w h area q us)
same_updates w h area p q [] s = s
same_updates w h area p q (u ∷ us) s =
    same_updates w h area (passed_after_paints w h area p (paints_of u)) (passed_after_paints w h area q (paints_of u)) us (same_paints w h area p q (paints_of u) s)

pub lacking_same : LackingSame
lacking_same w h area lacks others us same =
    same_updates w h area (record { copies = []; lacks = lacks }) (record { copies = []; lacks = others }) us (record { copies = refl; lacks = same })

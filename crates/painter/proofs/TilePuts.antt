-- The touched tiles as they look give the same screen as the update, and touch the same tiles. So a patch may be made
-- of them.
use Rattle.std.proofs.Common.{◌≡◌, ℕ, zero, suc, ◌+◌, ◌*◌, ◌-◌, ◌/◌, ◌%◌, ◌<◌, Bool, true, false, List, [], ◌∷◌, ◌++◌, map, All, get_or, inl, inr, Option, Some, None, refl, ap, sym, ◌∙◌, arith, zero-add}
use Rattle.std.specs.Prelude.{◌||◌, ◌&&◌, filter, if◌then◌else◌, max, min}
use Rattle.std.specs.List.{list_any, range_with_len}
use Rattle.std.proofs.lemmas.Bool.{cases_Bool, or_cases}
use Rattle.std.proofs.lemmas.Bool.Decides.{nat_tests}
use Rattle.std.proofs.lemmas.List.{append-nil}
use Rattle.std.proofs.lemmas.List.Elements.{filter-append}
use Rattle.std.proofs.lemmas.List.Folds.{list_any-append, list_any_at, list_any_none}
use Rattle.std.proofs.lemmas.List.FromFn.{get_or-range_with_len, length-range_with_len}
use Rattle.std.proofs.lemmas.Nat.{div-add-mod'}
use Rattle.raster.specs.declared.rect.Rect.{Rect}
use Rattle.raster.specs.Painted.{Fits}
use Rattle.raster.specs.Screen.{Canvas, LooksLike, holds, meets, part_of, tile_count, tile_rect, tiles_across, value_at, values_of}
use Rattle.raster.specs.declared.size.Size.{Size}
use Rattle.raster.specs.Update.{Paint, Paints, after_paint, after_paints, painted, size_told}
use Rattle.raster.proofs.Places.{Has, has_holds, holds_has, meets_at, tile_of, tile_of_has, tile_of_there, values_at}
use Rattle.tiles.proofs.Touching.{same_after_paints}
use Rattle.tiles.specs.Touched.{bell_or_text, touches}
use Rattle.painter.specs.Same.{AreSameFrom}
use Rattle.painter.specs.Copies.{leading_copies, other_paints}
use Rattle.painter.specs.Painter.{Painting, IsPaintedOver, is_touched, tile_put, tile_puts, touched_below, worked}
use Rattle.painter.proofs.CopyLaws.{LeadNone, after_both, all_paints, lead_again}
use Rattle.painter.proofs.PatchLaws.{list_any-map, looks_after_all}
use Rattle.painter.proofs.SameLaws.{same_one}
use Rattle.painter.proofs.PaintingLaws.{tile_has}

-- ---- tiles one after another

range_more : (a n : ℕ) → range_with_len a (suc n) ≡ range_with_len a n ++ (a + n) ∷ []
range_more a zero = let e : a ≡ a + 0 = omega arith in ap (λ k. k ∷ []) e
range_more a (suc n) = let e : a + 1 + n ≡ a + suc n = omega arith in ap (λ ks. a ∷ ks) (range_more (a + 1) n ∙ ap (λ k. range_with_len (a + 1) n ++ k ∷ []) e)

one_more : (screen : Painting) (t : ℕ) → touched_below screen (t + 1) ≡ touched_below screen t ++ filter (is_touched screen) (t ∷ [])
one_more screen t =
    let next : t + 1 ≡ suc t = omega arith in
    let range : range_with_len 0 (t + 1) ≡ range_with_len 0 t ++ t ∷ [] = ap (range_with_len 0) next ∙ (range_more 0 t ∙ ap (λ k. range_with_len 0 t ++ k ∷ []) (zero-add t)) in
    ap (filter (is_touched screen)) range ∙ filter-append (is_touched screen) (range_with_len 0 t) (t ∷ [])

-- The next tile, where it was touched.
pub touched_push : (screen : Painting) (t : ℕ) → is_touched screen t ≡ true → touched_below screen (t + 1) ≡ touched_below screen t ++ t ∷ []
touched_push screen t e = one_more screen t ∙ ap (λ b. touched_below screen t ++ (if b then t ∷ [] else [])) e

-- And where it wasn't.
pub touched_skip : (screen : Painting) (t : ℕ) → is_touched screen t ≡ false → touched_below screen (t + 1) ≡ touched_below screen t
touched_skip screen t e = one_more screen t ∙ (ap (λ b. touched_below screen t ++ (if b then t ∷ [] else [])) e ∙ append-nil (touched_below screen t))

-- ---- what they show

-- A tile put as it looks.
put_at : (w h : ℕ) (c s : Canvas) (t x y : ℕ) (b : Bool) → holds (tile_rect w h t) x y ≡ b → after_paint s (tile_put w h c t) x y ≡ (if b then c x y else s x y)
put_at w h c s t x y true e =
    let r : Rect = tile_rect w h t in
    let has : Has r x y = has_holds r x y e in
    let column : r.x + (x - r.x) ≡ x = omega (arith, has.left) in
    let row : r.y + (y - r.y) ≡ y = omega (arith, has.top) in
    ap (λ b. if b then value_at r.w (values_of r.w r.h (part_of r c)) (x - r.x) (y - r.y) else s x y) e
    ∙ (values_at r.w r.h (part_of r c) (x - r.x) (y - r.y) (omega (arith, has.left, has.right)) (omega (arith, has.top, has.bottom)) ∙ (ap (λ k. c k (r.y + (y - r.y))) column ∙ ap (c x) row))
put_at w h c s t x y false e =
    let r : Rect = tile_rect w h t in
    ap (λ b. if b then value_at r.w (values_of r.w r.h (part_of r c)) (x - r.x) (y - r.y) else s x y) e

chosen_same : (b : Bool) (u v : ℕ) → v ≡ u → (if b then u else v) ≡ u
chosen_same true u v e = refl
chosen_same false u v e = e

-- What looks as they do still does.
keeps : (w h : ℕ) (c s : Canvas) (ts : List ℕ) (x y : ℕ) → s x y ≡ c x y → after_paints s (map (tile_put w h c) ts) x y ≡ c x y
keeps w h c s [] x y e = e
keeps w h c s (t ∷ ts) x y e =
    keeps w h c (after_paint s (tile_put w h c t)) ts x y (put_at w h c s t x y (holds (tile_rect w h t) x y) refl ∙ chosen_same (holds (tile_rect w h t) x y) (c x y) (s x y) e)

-- What one of them holds looks as they do.
reaches : (w h : ℕ) (c s : Canvas) (ts : List ℕ) (x y : ℕ) → list_any (λ t. holds (tile_rect w h t) x y) ts ≡ true → after_paints s (map (tile_put w h c) ts) x y ≡ c x y
reaches w h c s [] x y e = absurd cc
reaches w h c s (t ∷ ts) x y e =
    elim (or_cases (holds (tile_rect w h t) x y) (list_any (λ k. holds (tile_rect w h k) x y) ts) e) [
      | inl here ↦ keeps w h c (after_paint s (tile_put w h c t)) ts x y (put_at w h c s t x y true here)
      | inr there ↦ reaches w h c (after_paint s (tile_put w h c t)) ts x y there
    ]

any_if : (test : ℕ → Bool) (b : Bool) (x : ℕ) (ys : List ℕ) → list_any test (if b then x ∷ ys else ys) ≡ ((b && test x) || list_any test ys)
any_if test true x ys = refl
any_if test false x ys = refl

any_filter : (test passes : ℕ → Bool) (xs : List ℕ) → list_any test (filter passes xs) ≡ list_any (λ t. passes t && test t) xs
any_filter test passes [] = refl
any_filter test passes (x ∷ xs) = any_if test (passes x) x (filter passes xs) ∙ ap (λ b. (passes x && test x) || b) (any_filter test passes xs)

-- One that passes is among those that do.
in_list : (test passes : ℕ → Bool) (n t : ℕ) → t < n → passes t ≡ true → test t ≡ true → list_any test (filter passes (range_with_len 0 n)) ≡ true
in_list test passes n t lt e f =
    let i : ℕ = get_or (range_with_len 0 n) t 0 in
    let both : (passes i && test i) ≡ true = ap (λ k. passes k && test k) (get_or-range_with_len 0 n t 0 lt ∙ zero-add t) ∙ (ap (λ b. b && test t) e ∙ f) in
    any_filter test passes (range_with_len 0 n) ∙ list_any_at (λ k. passes k && test k) (range_with_len 0 n) t 0 (rw (length-range_with_len 0 n) lt) both

none_if : (a b : Bool) → (a ≡ true → b ≡ false) → (a && b) ≡ false
none_if true b f = f refl
none_if false b f = refl

-- And no other is.
not_in_list : (test passes : ℕ → Bool) (n : ℕ) → ((t : ℕ) → t < n → passes t ≡ true → test t ≡ false) → list_any test (filter passes (range_with_len 0 n)) ≡ false
not_in_list test passes n f =
    any_filter test passes (range_with_len 0 n)
    ∙ list_any_none (λ k. passes k && test k) (range_with_len 0 n)
    (λ k d lt.
    let less : k < n = rw (length-range_with_len 0 n) at lt in
    ap (λ i. passes i && test i) (get_or-range_with_len 0 n k d less ∙ zero-add k) ∙ none_if (passes k) (test k) (f k less))

-- ---- an update and the tiles that it touched

-- Whatever looked like the screen at the update's start looks, with these tiles, as it does at the update's end.
pub same_screen : (w h : ℕ) (start before c : Canvas) (ps : List Paint) (passes : ℕ → Bool) → LooksLike w h start before → LooksLike w h c (after_paints start ps)
    → ((t : ℕ) → t < tile_count w h → passes t ≡ touches (tile_rect w h t) (Paints None ps)) → LooksLike w h (after_paints start ps) (after_paints before (tile_puts w h c passes))
same_screen w h start before c ps passes alike looks same x y lx ly =
    let t : ℕ = tile_of w x y in
    let there : t < tile_count w h = tile_of_there w h x y lx ly in
    let has : Has (tile_rect w h t) x y = tile_of_has w h x y lx ly in
    let ts : List ℕ = filter passes (range_with_len 0 (tile_count w h)) in
    sym (elim (cases_Bool (passes t)) [
      | inl in_it ↦ reaches w h c before ts x y (in_list (λ k. holds (tile_rect w h k) x y) passes (tile_count w h) t there in_it (holds_has (tile_rect w h t) x y has))
      | inr out ↦
          let stays : after_paints start ps x y ≡ start x y = same_after_paints start ps (tile_rect w h t) x y (sym (same t there) ∙ out) has in
          keeps w h c before ts x y (sym (alike x y lx ly) ∙ (sym stays ∙ sym (looks x y lx ly)))
    ] ∙ looks x y lx ly)

pub meets_common : (r s : Rect) → meets r s ≡ true → Has r (max r.x s.x) (max r.y s.y) × Has s (max r.x s.x) (max r.y s.y)
meets_common r s e =
    let across : max r.x s.x < min (r.x + r.w) (s.x + s.w) = grind (arith, nat_tests) in
    let down : max r.y s.y < min (r.y + r.h) (s.y + s.h) = grind (arith, nat_tests) in (
      record { left = omega arith; right = omega (arith, across); top = omega arith; bottom = omega (arith, down) },
      record { left = omega arith; right = omega (arith, across); top = omega arith; bottom = omega (arith, down) },
    )

-- A position lies in one tile alone.
pub its_tile : (w h t x y : ℕ) → Has (tile_rect w h t) x y → t ≡ tile_of w x y
its_tile w h t x y has =
    let column : t % tiles_across w ≡ x / 16 = omega (arith, has.left, has.right) in
    let row : t / tiles_across w ≡ y / 16 = omega (arith, has.top, has.bottom) in
    sym (div-add-mod' t (tiles_across w)) ∙ (ap (λ k. k * tiles_across w + t % tiles_across w) row ∙ ap (λ k. y / 16 * tiles_across w + k) column)

pub meet_by : (w h k t : ℕ) (b : Bool) → meets (tile_rect w h k) (tile_rect w h t) ≡ b → (k ≡ t → ⊥) → b ≡ false
meet_by w h k t true e other =
    let both = meets_common (tile_rect w h k) (tile_rect w h t) e in
    absurd (other (its_tile w h k _ _ both.0 ∙ sym (its_tile w h t _ _ both.1)))
meet_by w h k t false e other = refl

-- These tiles touch themselves and no others.
pub same_tiles : (w h : ℕ) (c : Canvas) (passes : ℕ → Bool) (t : ℕ) → 0 < w → t < tile_count w h → touches (tile_rect w h t) (Paints None (tile_puts w h c passes)) ≡ passes t
same_tiles w h c passes t lw lt =
    let r : Rect = tile_rect w h t in
    let here : ℕ → Bool = λ k. meets (tile_rect w h k) r in
    list_any-map (tile_put w h c) (λ p. meets (painted p) r) (filter passes (range_with_len 0 (tile_count w h)))
    ∙ elim (cases_Bool (passes t)) [
      | inl in_it ↦ in_list here passes (tile_count w h) t lt in_it (meets_at r r r.x r.y (tile_has w h t lw lt) (tile_has w h t lw lt)) ∙ sym in_it
      | inr out ↦
          not_in_list here passes (tile_count w h)
          (λ k less e. meet_by w h k t (meets (tile_rect w h k) r) refl (λ is. let f : true ≡ false = sym e ∙ (ap passes is ∙ out) in absurd cc))
          ∙ sym out
    ]

-- What tells kinds of updates apart doesn't look at paints.
same_kind : (size : Option Size) (ps qs : List Paint) → bell_or_text (Paints size ps) ≡ bell_or_text (Paints size qs)
same_kind None ps qs = refl
same_kind (Some size) ps qs = refl

-- No copy leads tiles that are put.
puts_lead_none : (w h : ℕ) (c : Canvas) (ts : List ℕ) → LeadNone (map (tile_put w h c) ts)
puts_lead_none w h c [] zero = refl
puts_lead_none w h c [] (suc n) = refl
puts_lead_none w h c (t ∷ ts) zero = refl
puts_lead_none w h c (t ∷ ts) (suc n) = refl

-- The copies that lead an update lead its patch.
pub patch_leads : (screen : Painting) (ps : List Paint) → screen.copies ≡ leading_copies ps → leading_copies (screen.copies ++ tile_puts screen.width screen.height (worked screen) (is_touched screen)) ≡ leading_copies ps
patch_leads screen ps are =
    let w : ℕ = screen.width in
    let h : ℕ = screen.height in
    let puts : List Paint = tile_puts w h (worked screen) (is_touched screen) in
    ap (λ (cs : List Paint). leading_copies (cs ++ puts)) are
    ∙ lead_again ps puts (puts_lead_none w h (worked screen) (filter (is_touched screen) (range_with_len 0 (tile_count w h))))

-- The update and the patch are the same update.
pub patch_is_same : (screen : Painting) (start before : Canvas) (ps : List Paint) → 0 < screen.width → All (Fits screen.width screen.height) screen.copies → LooksLike screen.width screen.height start before → IsPaintedOver start ps screen
    → AreSameFrom screen.width screen.height start before (Paints (size_told ps) ps ∷ []) (Paints screen.told (screen.copies ++ tile_puts screen.width screen.height (worked screen) (is_touched screen)) ∷ [])
patch_is_same screen start before ps lw fit alike stands =
    same_one w h start before (Paints (size_told ps) ps) (Paints screen.told (cs ++ puts)) alike shows touched
    (ap (λ (size : Option Size). bell_or_text (Paints size ps)) (sym stands.told) ∙ same_kind screen.told ps (cs ++ puts))
  where
    w : ℕ
    w = screen.width

    h : ℕ
    h = screen.height

    cs : List Paint
    cs = screen.copies

    puts : List Paint
    puts = tile_puts w h (worked screen) (is_touched screen)

    all : cs ++ other_paints ps ≡ ps
    all = ap (λ (ds : List Paint). ds ++ other_paints ps) stands.copies ∙ all_paints ps

    split : after_paints start ps ≡ after_paints (after_paints start cs) (other_paints ps)
    split = ap (after_paints start) (sym all) ∙ after_both start cs (other_paints ps)

    behind : LooksLike w h (after_paints (after_paints start cs) (other_paints ps)) (after_paints (after_paints before cs) puts)
    behind =
        same_screen w h (after_paints start cs) (after_paints before cs) (worked screen) (other_paints ps) (is_touched screen) (looks_after_all w h start before cs fit alike)
        (λ x y lx ly. stands.shows x y lx ly ∙ ap (λ (c : Canvas). c x y) split) stands.touched

    shows : LooksLike w h (after_paints start ps) (after_paints before (cs ++ puts))
    shows x y lx ly = ap (λ (c : Canvas). c x y) split ∙ (behind x y lx ly ∙ ap (λ (c : Canvas). c x y) (sym (after_both before cs puts)))

    touched : (t : ℕ) → t < tile_count w h → touches (tile_rect w h t) (Paints (size_told ps) ps) ≡ touches (tile_rect w h t) (Paints screen.told (cs ++ puts))
    touched t lt =
        let met : Paint → Bool = λ p. meets (painted p) (tile_rect w h t) in
        sym (ap (list_any met) all)
        ∙ (list_any-append met cs (other_paints ps)
        ∙ (ap (λ b. list_any met cs || b) (sym (stands.touched t lt) ∙ sym (same_tiles w h (worked screen) (is_touched screen) t lw lt)) ∙ sym (list_any-append met cs puts)))

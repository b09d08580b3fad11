-- A screen that is painted on, and its marks. A painter owes both for each paint.
use Rattle.std.proofs.Common.{◌≡◌, ℕ, ◌+◌, ◌*◌, ◌-◌, ◌<◌, ◌≤◌, Bool, true, false, List, [], ◌∷◌, ◌++◌, length, length-append, get_or, inl, inr, refl, ap, sym, subst, take, drop, Option, None, ◌∙◌, arith}
use Rattle.std.specs.Prelude.{◌&&◌, ◌||◌, ◌==◌, nat_lt, if◌then◌else◌, slice_index}
use Rattle.std.proofs.lemmas.Bool.{cases_lt}
use Rattle.std.proofs.lemmas.List.{get_or_append_left, get_or-append_right, get_or-drop, get_or-take}
use Rattle.std.proofs.lemmas.List.Folds.{list_any-append}
use Rattle.raster.specs.declared.rect.Rect.{Rect}
use Rattle.raster.specs.Painted.{Fits}
use Rattle.raster.specs.Screen.{Canvas, LooksLike, meets, tile_count, tile_rect, value_at, values_of, whole_screen}
use Rattle.raster.specs.declared.size.Size.{Size}
use Rattle.raster.specs.Update.{Paint, Copy, Paints, after_paint, after_paints, painted, size_after}
use Rattle.raster.proofs.Places.{Has, length_values, meets_at, values_at}
use Rattle.raster.proofs.Rows.{row_before}
use Rattle.raster.proofs.Values.{values_back}
use Rattle.raster.proofs.Screens.{looks_after, after_paints-more, size_after_paints-more}
use Rattle.tiles.proofs.Ranges.{IsTile, tile_is}
use Rattle.tiles.specs.Grid.{IsTouched, Stamps}
use Rattle.tiles.specs.Touched.{touches}
use Rattle.painter.specs.Copies.{leading_copies, other_paints}
use Rattle.painter.specs.Painter.{Painting, IsAsLarge, IsPaintedOver, is_touched, worked}
use Rattle.copy_log.specs.declared.note.TheConstants.{MOST_COPIES}
use Rattle.painter.proofs.CopyLaws.{IsLate, comes_behind, leads_no_more, leads_on, none_behind}

-- ---- marks

-- What a grid of the screen's size says of each tile once a rectangle was touched.
pub marks_of : (w h n : ℕ) (area : Rect) (old new : Stamps) → old.width ≡ w → old.height ≡ h → IsTouched (λ t. meets area (tile_rect old.width old.height t)) n old new
    → (t : ℕ) → t < tile_count w h → slice_index new.stamps t ≡ (if meets area (tile_rect w h t) then n else slice_index old.stamps t)
marks_of w h n area old new e f touched =
    subst (λ (k : ℕ). (t : ℕ) → t < tile_count w k → slice_index new.stamps t ≡ (if meets area (tile_rect w k t) then n else slice_index old.stamps t)) f
    (subst (λ (k : ℕ). (t : ℕ) → t < tile_count k old.height → slice_index new.stamps t ≡ (if meets area (tile_rect k old.height t) then n else slice_index old.stamps t)) e touched.each)

-- ---- a paint more

pub mark_is : (b a : Bool) (m : ℕ) → (m == 1) ≡ a → ((if b then 1 else m) == 1) ≡ (a || (b || false))
mark_is true true m e = refl
mark_is true false m e = refl
mark_is false true m e = e
mark_is false false m e = e

pub touches_more : (r : Rect) (ps : List Paint) (p : Paint) → touches r (Paints None (ps ++ p ∷ [])) ≡ (touches r (Paints None ps) || (meets (painted p) r || false))
touches_more r ps p = list_any-append (λ q. meets (painted q) r) ps (p ∷ [])

-- Where one more paint is painted that isn't a copy which leads, and the tiles that it meets are marked, it is painted
-- over the same start.
pub painted_more : (old new : Painting) (p : Paint) → Fits old.width old.height p → IsAsLarge old new → new.told ≡ size_after old.told p → new.copies ≡ old.copies → new.leads ≡ false → IsLate old.leads p
    → LooksLike old.width old.height (worked new) (after_paint (worked old) p)
    → ((t : ℕ) → t < tile_count old.width old.height → slice_index new.marks t ≡ (if meets (painted p) (tile_rect old.width old.height t) then 1 else slice_index old.marks t))
    → (start : Canvas) (ps : List Paint) → IsPaintedOver start ps old → IsPaintedOver start (ps ++ p ∷ []) new
painted_more old new p fits large told kept ends late shows marks start ps stands =
    record {
      shows = by_size (λ w h. LooksLike w h (worked new) (after_paints start (ps ++ p ∷ []))) looks;
      copies = kept ∙ (stands.copies ∙ sym behind.0);
      leads = ends ∙ sym (leads_no_more ps p behind.1);
      touched = by_size (λ w h. (t : ℕ) → t < tile_count w h → is_touched new t ≡ touches (tile_rect w h t) (Paints None (other_paints (ps ++ p ∷ [])))) tiles;
      told = told ∙ (ap (λ (size : Option Size). size_after size p) stands.told ∙ sym (size_after_paints-more None ps p));
    }
  where
    by_size : (P : ℕ → ℕ → Type 0) → P old.width old.height → P new.width new.height
    by_size P there = rw (large.width, large.height) there

    looks : LooksLike old.width old.height (worked new) (after_paints start (ps ++ p ∷ []))
    looks x y lx ly =
        shows x y lx ly
        ∙ (looks_after old.width old.height (worked old) (after_paints start ps) p fits stands.shows x y lx ly
        ∙ ap (λ (c : Canvas). c x y) (sym (after_paints-more start ps p)))

    behind : (leading_copies (ps ++ p ∷ []) ≡ leading_copies ps) × (other_paints (ps ++ p ∷ []) ≡ other_paints ps ++ p ∷ [])
    behind = comes_behind old.leads ps p stands.leads late

    tiles : (t : ℕ) → t < tile_count old.width old.height → is_touched new t ≡ touches (tile_rect old.width old.height t) (Paints None (other_paints (ps ++ p ∷ [])))
    tiles t lt =
        let r : Rect = tile_rect old.width old.height t in
        ap (λ k. k == 1) (marks t lt)
        ∙ (mark_is (meets (painted p) r) (touches r (Paints None (other_paints ps))) (slice_index old.marks t) (stands.touched t lt)
        ∙ (sym (touches_more r (other_paints ps) p) ∙ sym (ap (λ qs. touches r (Paints None qs)) behind.1)))

-- Where it is a copy that leads, that is kept, and no tile is marked.
pub copied_more : (old new : Painting) (area : Rect) (sx sy : ℕ) → Fits old.width old.height (Copy area sx sy) → IsAsLarge old new → new.told ≡ old.told → new.copies ≡ old.copies ++ Copy area sx sy ∷ [] → new.leads ≡ nat_lt (length new.copies) MOST_COPIES → old.leads ≡ true
    → length old.copies < MOST_COPIES → new.marks ≡ old.marks → LooksLike old.width old.height (worked new) (after_paint (worked old) (Copy area sx sy))
    → (start : Canvas) (ps : List Paint) → IsPaintedOver start ps old → IsPaintedOver start (ps ++ Copy area sx sy ∷ []) new
copied_more old new area sx sy fits large told more leads led few marks shows start ps stands =
    record {
      shows = by_size (λ w h. LooksLike w h (worked new) (after_paints start (ps ++ p ∷ []))) looks;
      copies = all;
      leads = leads ∙ sym (ap (λ qs. (length qs == 0) && nat_lt (length (leading_copies (ps ++ p ∷ []))) MOST_COPIES) on.1 ∙ ap (λ (cs : List Paint). nat_lt (length cs) MOST_COPIES) (sym all));
      touched = by_size (λ w h. (t : ℕ) → t < tile_count w h → is_touched new t ≡ touches (tile_rect w h t) (Paints None (other_paints (ps ++ p ∷ [])))) tiles;
      told = told ∙ (stands.told ∙ sym (size_after_paints-more None ps p));
    }
  where
    p : Paint
    p = Copy area sx sy

    by_size : (P : ℕ → ℕ → Type 0) → P old.width old.height → P new.width new.height
    by_size P there = rw (large.width, large.height) there

    looks : LooksLike old.width old.height (worked new) (after_paints start (ps ++ p ∷ []))
    looks x y lx ly =
        shows x y lx ly
        ∙ (looks_after old.width old.height (worked old) (after_paints start ps) p fits stands.shows x y lx ly
        ∙ ap (λ (c : Canvas). c x y) (sym (after_paints-more start ps p)))

    on : (leading_copies (ps ++ p ∷ []) ≡ leading_copies ps ++ p ∷ []) × (other_paints (ps ++ p ∷ []) ≡ [])
    on = leads_on old.copies ps area sx sy stands.copies (sym stands.leads ∙ led) few

    all : new.copies ≡ leading_copies (ps ++ p ∷ [])
    all = more ∙ (ap (λ (cs : List Paint). cs ++ p ∷ []) stands.copies ∙ sym on.0)

    tiles : (t : ℕ) → t < tile_count old.width old.height → is_touched new t ≡ touches (tile_rect old.width old.height t) (Paints None (other_paints (ps ++ p ∷ [])))
    tiles t lt =
        ap (λ ms. slice_index ms t == 1) marks
        ∙ (stands.touched t lt ∙ ap (λ qs. touches (tile_rect old.width old.height t) (Paints None qs)) (none_behind ps (sym stands.leads ∙ led) ∙ sym on.1))

-- ---- where an update begins

-- A tile has its own first position.
pub tile_has : (w h t : ℕ) → 0 < w → t < tile_count w h → Has (tile_rect w h t) (tile_rect w h t).x (tile_rect w h t).y
tile_has w h t lw lt =
    let is : IsTile w h t = tile_is w h t lw lt in
    record { left = omega arith; right = omega (arith, is.column); top = omega arith; bottom = omega (arith, is.row) }

pub whole_meets : (w h t : ℕ) → 0 < w → t < tile_count w h → meets (whole_screen w h) (tile_rect w h t) ≡ true
whole_meets w h t lw lt =
    let is : IsTile w h t = tile_is w h t lw lt in
    meets_at (whole_screen w h) (tile_rect w h t) (tile_rect w h t).x (tile_rect w h t).y
    (record { left = omega arith; right = omega (arith, is.column); top = omega arith; bottom = omega (arith, is.row) }) (tile_has w h t lw lt)

-- Where no tile is marked, no paint has come since what it looks like.
pub begun : (old new : Painting) → 0 < old.width → IsAsLarge old new → new.colours ≡ old.colours → new.told ≡ None → new.copies ≡ [] → new.leads ≡ true
    → ((t : ℕ) → t < tile_count old.width old.height → slice_index new.marks t ≡ (if meets (whole_screen old.width old.height) (tile_rect old.width old.height t) then 0 else slice_index old.marks t))
    → (start : Canvas) → LooksLike old.width old.height (worked old) start → IsPaintedOver start [] new
begun old new lw large same told none leads marks start looks =
    record {
      shows = by_size (λ w h. LooksLike w h (value_at w new.colours) start) (rw same looks);
      copies = none;
      leads = leads;
      touched = by_size (λ w h. (t : ℕ) → t < tile_count w h → is_touched new t ≡ false) tiles;
      told = told;
    }
  where
    by_size : (P : ℕ → ℕ → Type 0) → P old.width old.height → P new.width new.height
    by_size P there = rw (large.width, large.height) there

    tiles : (t : ℕ) → t < tile_count old.width old.height → is_touched new t ≡ false
    tiles t lt =
        ap (λ k. k == 1) (marks t lt ∙ ap (λ b. if b then 0 else slice_index old.marks t) (whole_meets old.width old.height t lw lt))

-- ---- rows that are gathered

-- A row more of a canvas.
rows_more : (w m : ℕ) (c : Canvas) (xs row : List ℕ) → length xs ≡ w * m → ((x : ℕ) → x < w → slice_index row x ≡ c x m)
    → ((x y : ℕ) → x < w → y < m → value_at w xs x y ≡ c x y) → (x y : ℕ) → x < w → y < m + 1 → value_at w (xs ++ row) x y ≡ c x y
rows_more w m c xs row e new old x y lx ly =
    elim (cases_lt y m) [
      | inl above ↦ get_or_append_left xs row 0 (y * w + x) (omega (arith, e, row_before w x y m lx above)) ∙ old x y lx above
      | inr from ↦
          let last : y ≡ m = omega arith in
          let behind : length xs ≤ y * w + x = omega (arith, e, ap (λ k. k * w) last) in
          let place : y * w + x - length xs ≡ x = omega (arith, e, ap (λ k. k * w) last) in
          get_or-append_right xs row (length xs) (y * w + x) 0 refl behind ∙ (ap (λ k. get_or row k 0) place ∙ (new x lx ∙ ap (c x) (sym last)))
    ]

-- A row after those above it.
pub next_row : (w y : ℕ) (c : Canvas) (row : List ℕ) → 0 < w → length row ≡ w → ((x : ℕ) → x < w → slice_index row x ≡ c x y) → values_of w y c ++ row ≡ values_of w (y + 1) c
next_row w y c row lw count new =
    let all : w * (y + 1) ≡ w * y + w = omega arith in
    sym (values_back w (y + 1) c (values_of w y c ++ row) lw (length-append (values_of w y c) row ∙ omega (arith, length_values w y c, count, all))
    (λ i j li lj. sym (rows_more w y c (values_of w y c) row (length_values w y c) new (λ k m lk lm. values_at w y c k m lk lm) i j li lj)))

-- A part of a row.
pub part_at : (row : List ℕ) (from n k : ℕ) → k < n → slice_index (take n (drop from row)) k ≡ slice_index row (from + k)
part_at row from n k lt = get_or-take n (drop from row) k 0 lt ∙ get_or-drop from row k 0

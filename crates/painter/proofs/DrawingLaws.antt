-- A screen that is drawn on in one rectangle. A codec draws in place, and at the end it is one paint more.
use Rattle.std.proofs.Common.{◌≡◌, ℕ, ◌+◌, ◌-◌, ◌<◌, Bool, true, false, List, [], ◌∷◌, ◌++◌, None, refl, sym, ap, ◌∙◌, arith}
use Rattle.std.specs.Prelude.{◌==◌, if◌then◌else◌, slice_index}
use Rattle.raster.specs.declared.rect.Rect.{Rect}
use Rattle.raster.specs.Screen.{Canvas, LooksLike, holds, lay, meets, part_of, tile_count, tile_rect, value_at}
use Rattle.raster.specs.Update.{Paint, Paints, Put, after_paints}
use Rattle.raster.proofs.Places.{Has, has_holds}
use Rattle.raster.proofs.Screens.{after_paints-more, size_after_paints-more}
use Rattle.tiles.specs.Touched.{touches}
use Rattle.painter.specs.Copies.{leading_copies, other_paints}
use Rattle.painter.specs.Drawing.{IsPaintedAround, drawn}
use Rattle.painter.specs.Painter.{Painting, IsAsLarge, IsPaintedOver, is_touched, worked}
use Rattle.painter.proofs.CopyLaws.{comes_behind, leads_no_more, not_late}
use Rattle.painter.proofs.PaintingLaws.{mark_is, touches_more}

laid : (area : Rect) (screen over under : Canvas) (x y : ℕ) (b : Bool) → holds area x y ≡ b → (b ≡ true → screen x y ≡ over (x - area.x) (y - area.y)) → (b ≡ false → screen x y ≡ under x y) → screen x y ≡ lay area over under x y
laid area screen over under x y true e inside outside = inside refl ∙ sym (ap (λ t. if t then over (x - area.x) (y - area.y) else under x y) e)
laid area screen over under x y false e inside outside = outside refl ∙ sym (ap (λ t. if t then over (x - area.x) (y - area.y) else under x y) e)

inside_of : (area : Rect) (screen : Canvas) (over : Canvas) (x y : ℕ) → LooksLike area.w area.h (part_of area screen) over → Has area x y → screen x y ≡ over (x - area.x) (y - area.y)
inside_of area screen over x y looks has =
    let across : area.x + (x - area.x) ≡ x = omega (arith, has.left) in
    let down : area.y + (y - area.y) ≡ y = omega (arith, has.top) in
    ap (λ j. screen x j) (sym down) ∙ (ap (λ i. screen i (area.y + (y - area.y))) (sym across)
    ∙ looks (x - area.x) (y - area.y) (omega (arith, has.left, has.right)) (omega (arith, has.top, has.bottom)))

-- What was painted around a rectangle, and what that shows, with its tiles marked, are one paint more.
pub painted_around : (old new : Painting) (colours : List ℕ) → IsAsLarge old new → new.colours ≡ old.colours → new.told ≡ old.told → new.copies ≡ old.copies → new.leads ≡ false
    → ((t : ℕ) → t < tile_count old.width old.height → slice_index new.marks t ≡ (if meets old.area (tile_rect old.width old.height t) then 1 else slice_index old.marks t))
    → (start : Canvas) (ps : List Paint) → IsPaintedAround start ps old.area old → LooksLike old.area.w old.area.h (drawn old) (value_at old.area.w colours) → IsPaintedOver start (ps ++ Put old.area colours ∷ []) new
painted_around old new colours large same told kept ends marks start ps around shows =
    record {
      shows = by_size (λ w h. LooksLike w h (value_at w new.colours) (after_paints start (ps ++ Put old.area colours ∷ []))) (rw same looks);
      copies = kept ∙ (around.copies ∙ sym behind.0);
      leads = ends ∙ sym (leads_no_more ps (Put old.area colours) behind.1);
      touched = by_size (λ w h. (t : ℕ) → t < tile_count w h → is_touched new t ≡ touches (tile_rect w h t) (Paints None (other_paints (ps ++ Put old.area colours ∷ [])))) tiles;
      told = told ∙ (around.told ∙ sym (size_after_paints-more None ps (Put old.area colours)));
    }
  where
    by_size : (P : ℕ → ℕ → Type 0) → P old.width old.height → P new.width new.height
    by_size P there = rw (large.width, large.height) there

    looks : LooksLike old.width old.height (worked old) (after_paints start (ps ++ Put old.area colours ∷ []))
    looks x y lx ly =
        laid old.area (worked old) (value_at old.area.w colours) (after_paints start ps) x y (holds old.area x y) refl
        (λ e. inside_of old.area (worked old) (value_at old.area.w colours) x y shows (has_holds old.area x y e))
        (λ e. around.shows x y lx ly e)
        ∙ ap (λ (c : Canvas). c x y) (sym (after_paints-more start ps (Put old.area colours)))

    behind : (leading_copies (ps ++ Put old.area colours ∷ []) ≡ leading_copies ps) × (other_paints (ps ++ Put old.area colours ∷ []) ≡ other_paints ps ++ Put old.area colours ∷ [])
    behind = comes_behind old.leads ps (Put old.area colours) around.leads (not_late old.leads (Put old.area colours) refl)

    tiles : (t : ℕ) → t < tile_count old.width old.height → is_touched new t ≡ touches (tile_rect old.width old.height t) (Paints None (other_paints (ps ++ Put old.area colours ∷ [])))
    tiles t lt =
        let r : Rect = tile_rect old.width old.height t in
        ap (λ k. k == 1) (marks t lt)
        ∙ (mark_is (meets old.area r) (touches r (Paints None (other_paints ps))) (slice_index old.marks t) (around.touched t lt)
        ∙ (sym (touches_more r (other_paints ps) (Put old.area colours)) ∙ sym (ap (λ qs. touches r (Paints None qs)) behind.1)))

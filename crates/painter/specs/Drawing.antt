-- Drawing on one rectangle of a screen, as the bytes of its paint come.
use Rattle.std.specs.Prelude.{◌≡◌, ℕ, ◌<◌, false, List, None}
use Rattle.std.proofs.Common.{refl, sym, subst, ◌∙◌}
use Rattle.raster.specs.declared.rect.Rect.{Rect}
use Rattle.raster.specs.Screen.{Canvas, holds, part_of, tile_count, tile_rect}
use Rattle.raster.specs.Update.{Paint, Paints, after_paints, size_told}
use Rattle.tiles.specs.Touched.{touches}
use Rattle.painter.specs.Copies.{can_lead, leading_copies, other_paints}
use Rattle.painter.specs.Painter.{Painting, is_touched, worked}

-- What the rectangle that is drawn on shows.
abbrev pub drawn : Painting → Canvas
drawn screen = part_of screen.area (worked screen)

-- Nothing but what that rectangle shows has changed.
pub record IsSameAround (old new : Painting) : Type 0 where
  pub width : new.width ≡ old.width
  pub height : new.height ≡ old.height
  pub copies : new.copies ≡ old.copies
  pub leads : new.leads ≡ old.leads
  pub marks : new.marks ≡ old.marks
  pub area : new.area ≡ old.area
  pub told : new.told ≡ old.told
  pub outside : (x y : ℕ) → x < old.width → y < old.height → holds old.area x y ≡ false → worked new x y ≡ worked old x y

-- Around a rectangle the screen shows these paints over what it showed at the update's start. Its copies are those that
-- the paints begin with, it says whether one more would be one of these, and the tiles that were touched are those that
-- at least one of the other paints touches. The new size is the last that a paint tells.
pub record IsPaintedAround (start : Canvas) (paints : List Paint) (area : Rect) (screen : Painting) : Type 0 where
  pub shows : (x y : ℕ) → x < screen.width → y < screen.height → holds area x y ≡ false → worked screen x y ≡ after_paints start paints x y
  pub copies : screen.copies ≡ leading_copies paints
  pub leads : screen.leads ≡ can_lead paints
  pub touched : (t : ℕ) → t < tile_count screen.width screen.height → is_touched screen t ≡ touches (tile_rect screen.width screen.height t) (Paints None (other_paints paints))
  pub told : screen.told ≡ size_told paints

-- ---- what a canvas owes

-- From a screen to itself nothing has changed.
pub around_at_once : (p : Painting) → IsSameAround p p
around_at_once p = record { width = refl; height = refl; copies = refl; leads = refl; marks = refl; area = refl; told = refl; outside = λ x y lx ly e. refl }

-- Two such changes, one after the other, are one such change.
pub around_then : (a b c : Painting) → IsSameAround a b → IsSameAround b c → IsSameAround a c
around_then a b c f g =
    record {
      width = g.width ∙ f.width;
      height = g.height ∙ f.height;
      copies = g.copies ∙ f.copies;
      leads = g.leads ∙ f.leads;
      marks = g.marks ∙ f.marks;
      area = g.area ∙ f.area;
      told = g.told ∙ f.told;
      outside = λ x y lx ly e.
          g.outside x y (subst (λ (n : ℕ). x < n) (sym f.width) lx) (subst (λ (n : ℕ). y < n) (sym f.height) ly) (subst (λ (r : Rect). holds r x y ≡ false) (sym f.area) e)
          ∙ f.outside x y lx ly e;
    }

-- A black screen of which all tiles are touched brings a switch, over whatever was shown before.
use Rattle.std.proofs.Common.{◌≡◌, ℕ, ◌<◌, ◌≤◌, true, false, Some, List, [], ◌∷◌, ◌++◌, refl, sym, ap, subst, ◌∙◌, arith}
use Rattle.std.specs.Prelude.{if◌then◌else◌, slice_index}
use Rattle.raster.specs.declared.rect.Rect.{Rect}
use Rattle.raster.specs.Screen.{Canvas, IsWithin, LooksLike, fill, holds, meets, opening, tile_count, tile_rect, whole_screen}
use Rattle.raster.specs.declared.size.Size.{Size}
use Rattle.raster.specs.Size.{IsScreenSize}
use Rattle.raster.specs.Update.{Paint, Paints, Resized, Update, after_paint, after_paints, everything, paints_of, size_told}
use Rattle.raster.specs.Switch.{switch_to}
use Rattle.raster.proofs.Places.{Has, holds_has, meets_at}
use Rattle.painter.specs.Same.{AreSameUpdates}
use Rattle.painter.specs.Painter.{Painting, IsAsLarge, IsPaintedOver, worked}
use Rattle.painter.proofs.CopyLaws.{not_late}
use Rattle.painter.proofs.PaintingLaws.{painted_more, tile_has, whole_meets}
use Rattle.painter.proofs.PatchLaws.{tile_within}

-- What stands for one size stands for the same.
pub at_size : (P : ℕ → ℕ → Type 0) (v k w h : ℕ) → v ≡ w → k ≡ h → P v k → P w h
at_size P v k w h wide high there = subst (λ n. P n h) wide (subst (P v) high there)

in_whole : (w h x y : ℕ) → x < w → y < h → holds (whole_screen w h) x y ≡ true
in_whole w h x y lx ly = holds_has (whole_screen w h) x y (record { left = omega arith; right = omega (arith, lx); top = omega arith; bottom = omega (arith, ly) })

-- Everything holds each position of a screen, and meets each tile.
in_everything : (w h x y : ℕ) → IsScreenSize w h → x < w → y < h → Has everything x y
in_everything w h x y size lx ly = record { left = omega arith; right = omega (arith, lx, size.wide.1); top = omega arith; bottom = omega (arith, ly, size.high.1) }

everything_meets : (w h t : ℕ) → IsScreenSize w h → t < tile_count w h → meets everything (tile_rect w h t) ≡ true
everything_meets w h t size lt =
    let lw : 0 < w = omega (arith, size.wide.0) in
    let r : Rect = tile_rect w h t in
    let within : IsWithin r w h = tile_within w h t lw lt in
    let has : Has r r.x r.y = tile_has w h t lw lt in
    meets_at everything r r.x r.y
    (in_everything w h r.x r.y size (omega (arith, has.right, within.across)) (omega (arith, has.bottom, within.down))) has

-- A screen that is filled with black looks like one at a new size.
filled_black : (w h : ℕ) (size : Size) (old new : Canvas) → IsScreenSize w h → LooksLike w h new (fill (whole_screen w h) 0 old) → LooksLike w h new (after_paint old (Resized size))
filled_black w h size old new screen shows x y lx ly =
    shows x y lx ly
    ∙ (ap (λ t. if t then 0 else old x y) (in_whole w h x y lx ly)
    ∙ sym (ap (λ t. if t then 0 else old x y) (holds_has everything x y (in_everything w h x y screen lx ly))))

-- So that is one paint more, wherever it comes in an update.
pub resized_painted : (old new : Painting) (size : Size) (whole : Rect) → IsScreenSize old.width old.height → (size.width ≤ old.width) × (size.height ≤ old.height) → whole ≡ whole_screen old.width old.height
    → IsAsLarge old new → new.told ≡ Some size → new.copies ≡ old.copies → new.leads ≡ false → LooksLike old.width old.height (worked new) (fill whole 0 (worked old))
    → ((t : ℕ) → t < tile_count old.width old.height → slice_index new.marks t ≡ (if meets whole (tile_rect old.width old.height t) then 1 else slice_index old.marks t))
    → (start : Canvas) (paints : List Paint) → IsPaintedOver start paints old → IsPaintedOver start (paints ++ Resized size ∷ []) new
resized_painted old new size whole screen fits is large told kept ends shows marks =
    let w : ℕ = old.width in
    let h : ℕ = old.height in
    let lw : 0 < w = omega (arith, screen.wide.0) in
    painted_more old new (Resized size) fits large told kept ends (not_late old.leads (Resized size) refl)
    (filled_black w h size (worked old) (worked new) screen (subst (λ (r : Rect). LooksLike w h (worked new) (fill r 0 (worked old))) is shows))
    (λ t lt.
    marks t lt ∙ ap (λ b. if b then 1 else slice_index old.marks t)
    (ap (λ (r : Rect). meets r (tile_rect w h t)) is ∙ (whole_meets w h t lw lt ∙ sym (everything_meets w h t screen lt))))

-- ---- a switch

-- Whatever a switch is laid over, it leaves a black screen.
is_black : (w h : ℕ) (size : Size) (start : Canvas) → IsScreenSize w h → LooksLike w h (after_paints start (paints_of (switch_to size))) opening
is_black w h size start screen x y lx ly = ap (λ t. if t then 0 else start x y) (holds_has everything x y (in_everything w h x y screen lx ly))

-- So what is painted over one start is painted over any other.
switched_over : (screen : Painting) (size : Size) (a b : Canvas) → IsScreenSize screen.width screen.height → IsPaintedOver a (paints_of (switch_to size)) screen → IsPaintedOver b (paints_of (switch_to size)) screen
switched_over screen size a b large stands =
    let w : ℕ = screen.width in
    let h : ℕ = screen.height in
    record {
      shows = λ x y lx ly. stands.shows x y lx ly ∙ (is_black w h size a large x y lx ly ∙ sym (is_black w h size b large x y lx ly));
      copies = stands.copies;
      leads = stands.leads;
      touched = stands.touched;
      told = stands.told;
    }

-- Its patch comes to the same as a switch.
pub patch_switches : (screen : Painting) (size : Size) (us : List Update) → IsScreenSize screen.width screen.height → IsPaintedOver opening (paints_of (switch_to size)) screen
    → ((start : Canvas) (paints : List Paint) → IsPaintedOver start paints screen → AreSameUpdates screen.width screen.height start (Paints (size_told paints) paints ∷ []) us)
    → (start : Canvas) → AreSameUpdates screen.width screen.height start (switch_to size ∷ []) us
patch_switches screen size us large over same start = same start (paints_of (switch_to size)) (switched_over screen size opening start large over)

-- And the next update begins over a black screen.
pub begins_black : (screen new : Painting) (size : Size) → IsScreenSize screen.width screen.height → IsPaintedOver opening (paints_of (switch_to size)) screen
    → ((start : Canvas) → LooksLike screen.width screen.height (worked screen) start → IsPaintedOver start [] new)
    → IsPaintedOver opening [] new
begins_black screen new size large over begun = begun opening (λ x y lx ly. over.shows x y lx ly ∙ is_black screen.width screen.height size opening large x y lx ly)

-- Which is what the switch left.
pub begins_switched : (screen : Painting) (size : Size) (start : Canvas) → IsScreenSize screen.width screen.height → IsPaintedOver opening [] screen → IsPaintedOver (after_paints start (paints_of (switch_to size))) [] screen
begins_switched screen size start large stands =
    record {
      shows = λ x y lx ly. stands.shows x y lx ly ∙ sym (is_black screen.width screen.height size start large x y lx ly);
      copies = stands.copies;
      leads = stands.leads;
      touched = stands.touched;
      told = stands.told;
    }

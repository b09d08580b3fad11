-- What the tiles of a patch paint, and which tiles they touch. A patch keeps tiles in place of the paints that it was
-- made of.
use Rattle.std.proofs.Common.{◌≡◌, ℕ, zero, suc, List, [], ◌∷◌, length, take, drop, map, All, refl, ap, ◌<◌, ◌≤◌, arith}
use Rattle.std.specs.Prelude.{◌||◌, Bool}
use Rattle.std.specs.List.{list_any, sum_by}
use Rattle.std.proofs.lemmas.List.{length-drop, length-take}
use Rattle.std.proofs.lemmas.List.Sums.{sum_by-cons}
use Rattle.raster.specs.Painted.{Fits}
use Rattle.raster.specs.Screen.{Canvas, IsWithin, LooksLike, lay, meets, tile_count, tile_rect, value_at}
use Rattle.raster.specs.declared.rect.Rect.{Rect}
use Rattle.raster.specs.Update.{Paint, Put, after_paint, after_paints, painted}
use Rattle.raster.proofs.Screens.{looks_after}
use Rattle.tiles.proofs.Ranges.{IsTile, tile_is}
use Rattle.painter.specs.Patch.{AreTiles, tile_area, tile_paints}
use Rattle.painter.proofs.CopyLaws.{LeadNone}

-- What looks alike looks alike after paints that fit.
pub looks_after_all : (w h : ℕ) (a b : Canvas) (ps : List Paint) → All (Fits w h) ps → LooksLike w h a b → LooksLike w h (after_paints a ps) (after_paints b ps)
looks_after_all w h a b [] fits same = same
looks_after_all w h a b (p ∷ ps) fits same = looks_after_all w h (after_paint a p) (after_paint b p) ps (λ k d lt. fits (suc k) d (omega arith)) (looks_after w h a b p (fits 0 p (omega arith)) same)

-- A test of what is made of a list's elements is one of the elements.
pub list_any-map : {A B : Type 0} (f : A → B) (test : B → Bool) (xs : List A) → list_any test (map f xs) ≡ list_any (λ x. test (f x)) xs
list_any-map f test [] = refl
list_any-map f test (x ∷ xs) = ap (λ b. test (f x) || b) (list_any-map f test xs)

-- ---- tiles one after the other

pub tile_within : (w h t : ℕ) → 0 < w → t < tile_count w h → IsWithin (tile_rect w h t) w h
tile_within w h t lw lt = let is : IsTile w h t = tile_is w h t lw lt in record { across = omega (arith, is.column); down = omega (arith, is.row) }

-- There are colours for the first of them, and the rest are for the others.
pub enough : (f : ℕ → ℕ) (t : ℕ) (ts colours : List ℕ) → length colours ≡ sum_by f (t ∷ ts) → f t ≤ length colours
enough f t ts colours e = omega (arith, e, sum_by-cons f t ts)

first_count : (f : ℕ → ℕ) (t : ℕ) (ts colours : List ℕ) → length colours ≡ sum_by f (t ∷ ts) → length (take (f t) colours) ≡ f t
first_count f t ts colours e = omega (arith, length-take (f t) colours, enough f t ts colours e)

rest_count : (f : ℕ → ℕ) (t : ℕ) (ts colours : List ℕ) → length colours ≡ sum_by f (t ∷ ts) → length (drop (f t) colours) ≡ sum_by f ts
rest_count f t ts colours e = omega (arith, length-drop (f t) colours, e, sum_by-cons f t ts)

pub others : (w h t : ℕ) (ts colours : List ℕ) → AreTiles w h (t ∷ ts) colours → AreTiles w h ts (drop (tile_area w h t) colours)
others w h t ts colours are =
    record {
      there = λ k d lt. are.there (suc k) d (omega arith);
      count = rest_count (tile_area w h) t ts colours are.count;
    }

-- They lie on the screen.
pub tiles_fit : (w h : ℕ) (ts colours : List ℕ) → 0 < w → AreTiles w h ts colours → All (Fits w h) (tile_paints w h ts colours)
tiles_fit w h [] colours lw are k d lt = absurd (omega arith)
tiles_fit w h (t ∷ ts) colours lw are zero d lt = (tile_within w h t lw (are.there 0 t (omega arith)), first_count (tile_area w h) t ts colours are.count)
tiles_fit w h (t ∷ ts) colours lw are (suc k) d lt = tiles_fit w h ts (drop (tile_area w h t) colours) lw (others w h t ts colours are) k d (omega arith)

-- Where the first is put, the others give what all of them give.
pub put_first : (w h t : ℕ) (ts colours old new : List ℕ) → 0 < w → AreTiles w h (t ∷ ts) colours
    → LooksLike w h (value_at w new) (lay (tile_rect w h t) (value_at (tile_rect w h t).w (take (tile_area w h t) colours)) (value_at w old))
    → LooksLike w h (after_paints (value_at w new) (tile_paints w h ts (drop (tile_area w h t) colours))) (after_paints (value_at w old) (tile_paints w h (t ∷ ts) colours))
put_first w h t ts colours old new lw are shows =
    looks_after_all w h (value_at w new) (after_paint (value_at w old) (Put (tile_rect w h t) (take (tile_area w h t) colours))) (tile_paints w h ts (drop (tile_area w h t) colours))
    (tiles_fit w h ts (drop (tile_area w h t) colours) lw (others w h t ts colours are)) shows

-- They touch what their rectangles meet.
pub meets_tiles : (w h : ℕ) (r : Rect) (ts colours : List ℕ) → list_any (λ p. meets (painted p) r) (tile_paints w h ts colours) ≡ list_any (λ k. meets (tile_rect w h k) r) ts
meets_tiles w h r [] colours = refl
meets_tiles w h r (t ∷ ts) colours = ap (λ b. meets (tile_rect w h t) r || b) (meets_tiles w h r ts (drop (tile_area w h t) colours))

-- No copy leads them.
pub tiles_lead_none : (w h : ℕ) (ts colours : List ℕ) → LeadNone (tile_paints w h ts colours)
tiles_lead_none w h [] colours zero = refl
tiles_lead_none w h [] colours (suc n) = refl
tiles_lead_none w h (t ∷ ts) colours zero = refl
tiles_lead_none w h (t ∷ ts) colours (suc n) = refl

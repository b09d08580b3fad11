-- Updates that come to the same, and others, on a screen of 2 by 1. The first are the same by the definition, the
-- others aren't.
use Rattle.std.proofs.Common.{◌≡◌, ℕ, zero, suc, ◌<◌, true, false, [], ◌∷◌, Some, None, refl, arith}
use Rattle.raster.specs.declared.rect.Rect.{Rect}
use Rattle.raster.specs.Screen.{Canvas, LooksLike, opening, tile_rect}
use Rattle.raster.specs.Update.{Update, Paints, Put, Bell, Cut}
use Rattle.tiles.specs.Touched.{touches}
use Rattle.painter.specs.Same.{AreSameFrom}
use Rattle.painter.proofs.SameLaws.{same_one}

abbrev rect : ℕ → ℕ → ℕ → ℕ → Rect
rect x y w h = record { x = x; y = y; w = w; h = h }

-- A screen on which one update follows.
abbrev AreSame : Update → Update → Type 0
AreSame u v = AreSameFrom 2 1 opening opening (u ∷ []) (v ∷ [])

on_two_pixels : (a b : Canvas) → a 0 0 ≡ b 0 0 → a 1 0 ≡ b 1 0 → LooksLike 2 1 a b
on_two_pixels a b left right zero zero lx ly = left
on_two_pixels a b left right (suc zero) zero lx ly = right
on_two_pixels a b left right (suc (suc x)) zero lx ly = absurd (omega arith)
on_two_pixels a b left right x (suc y) lx ly = absurd (omega arith)

on_one_tile : (P : ℕ → Type 0) → P 0 → (t : ℕ) → t < 1 → P t
on_one_tile P first zero lt = first
on_one_tile P first (suc t) lt = absurd (omega arith)

abbrev at_once : Update
at_once = Paints None (Put (rect 0 0 2 1) (1 ∷ 2 ∷ []) ∷ [])

abbrev one_by_one : Update
one_by_one = Paints None (Put (rect 1 0 1 1) (2 ∷ []) ∷ Put (rect 0 0 1 1) (1 ∷ []) ∷ [])

-- Two pixels put at once, or one after the other: the screen and the touched tiles are the same.
pub at_once_or_one_by_one : AreSame at_once one_by_one
at_once_or_one_by_one =
    same_one 2 1 opening opening at_once one_by_one (λ x y lx ly. refl) (on_two_pixels _ _ refl refl)
    (on_one_tile (λ t. touches (tile_rect 2 1 t) at_once ≡ touches (tile_rect 2 1 t) one_by_one) refl) refl

-- Another colour isn't the same; nor is black on black where nothing is painted, which touches no tile; nor a Bell and
-- an empty text.
pub other_colour_is_another : AreSame (Paints None (Put (rect 0 0 1 1) (1 ∷ []) ∷ [])) (Paints None (Put (rect 0 0 1 1) (2 ∷ []) ∷ [])) → ⊥
other_colour_is_another same = let e : 1 ≡ 2 = same.shows 1 0 0 (omega arith) (omega arith) in omega (arith, e)

pub black_on_black_is_another : AreSame (Paints None (Put (rect 0 0 1 1) (0 ∷ []) ∷ [])) (Paints None []) → ⊥
black_on_black_is_another same = let e : true ∷ [] ≡ false ∷ [] = same.touched 0 (omega arith) in cc

pub bell_is_no_text : AreSame Bell (Cut []) → ⊥
bell_is_no_text same = let e : Some [] ∷ [] ≡ Some (0 ∷ []) ∷ [] = same.kinds in cc

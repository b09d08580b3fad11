-- The definitions compute small cases. A definition that says something else is refused here.
use Rattle.std.proofs.Common.{◌≡◌, ℕ, Bool, true, false, List, [], ◌∷◌, map, refl}
use Rattle.std.specs.Prelude.{None, ◌==◌}
use Rattle.raster.specs.declared.rect.Rect.{Rect}
use Rattle.raster.specs.Update.{Bell, Copy, Paints, Put, Resized, Update}
use Rattle.copy_log.specs.Passed.{Passed, passed}

abbrev rect : ℕ → ℕ → ℕ → ℕ → Rect
rect x y w h = record { x = x; y = y; w = w; h = h }

-- A screen of one tile across and three down, whose viewer asked for all of it.
abbrev sent : (ℕ → Bool) → List Update → Passed
sent lacks us = passed 16 48 (rect 0 0 16 48) lacks us

-- Which of the three tiles are lacked.
abbrev lacked : Passed → List Bool
lacked p = map p.lacks (0 ∷ 1 ∷ 2 ∷ [])

abbrev none : ℕ → Bool
none t = false

-- A host scrolls up by a tile, and puts what comes into sight. The viewer is sent the copy, and the last tile.
abbrev scrolls : Update
scrolls = Paints None (Copy (rect 0 0 16 32) 0 16 ∷ Put (rect 0 32 16 16) [] ∷ [])

pub scroll_is_passed : (sent none (scrolls ∷ [])).copies ≡ Copy (rect 0 0 16 32) 0 16 ∷ []
scroll_is_passed = refl

pub rest_is_lacked : lacked (sent none (scrolls ∷ [])) ≡ false ∷ false ∷ true ∷ []
rest_is_lacked = refl

-- When it scrolls again at once, the second copy would read what the viewer wasn't sent yet, and all is lacked.
pub second_is_not_passed : (sent none (scrolls ∷ Bell ∷ scrolls ∷ [])).copies ≡ Copy (rect 0 0 16 32) 0 16 ∷ []
second_is_not_passed = refl

pub all_is_lacked : lacked (sent none (scrolls ∷ Bell ∷ scrolls ∷ [])) ≡ true ∷ true ∷ true ∷ []
all_is_lacked = refl

-- A copy of which the viewer lacks the source isn't passed on, nor one that leads out of the area.
pub lacked_source : (sent (λ t. t == 1) (Paints None (Copy (rect 0 0 16 16) 0 16 ∷ []) ∷ [])).copies ≡ []
lacked_source = refl

pub out_of_the_area : (passed 16 48 (rect 0 0 16 32) none (Paints None (Copy (rect 0 32 16 16) 0 0 ∷ []) ∷ [])).copies ≡ []
out_of_the_area = refl

pub from_outside_the_area : (passed 16 48 (rect 0 0 16 32) none (Paints None (Copy (rect 0 0 16 16) 0 32 ∷ []) ∷ [])).copies ≡ []
from_outside_the_area = refl

-- A target that was lacked is lacked still.
pub target_stays_lacked : lacked (sent (λ t. t == 0) (Paints None (Copy (rect 0 0 16 16) 0 16 ∷ []) ∷ [])) ≡ true ∷ false ∷ false ∷ []
target_stays_lacked = refl

-- Behind a new size all is lacked.
pub new_size_is_lacked : lacked (sent none (Paints None (Resized (record { width = 8; height = 8 }) ∷ []) ∷ [])) ≡ true ∷ true ∷ true ∷ []
new_size_is_lacked = refl

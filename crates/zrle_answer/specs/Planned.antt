-- Which rectangles an answer has (own).
use Rattle.std.specs.Prelude.{◌≡◌, ℕ, ◌+◌, ◌≤◌, ◌||◌, List, length, map}
use Rattle.raster.specs.declared.rect.Rect.{Rect}
use Rattle.raster.specs.Screen.{holds}
use Rattle.tiles.specs.Brings.{IsPart, some_holds}
use Rattle.raster.proofs.Spellings.{Each}
use Rattle.zrle_answer.specs.declared.plan.Planned.{Planned}

-- Where planned rectangles lie.
abbrev pub areas_of : List Planned → List Rect
areas_of plan = map (λ p. p.area) plan

-- A rectangle is as wide as another, and begins right below it.
pub record GoesOn (above r : Rect) : Type 0 where
  pub x : above.x ≡ r.x
  pub w : above.w ≡ r.w
  pub y : above.y + above.h ≡ r.y
  pub few : above.h + r.h ≤ 64

-- The new rectangles hold what the old ones and another hold. They lie where those do, and there is one more at most.
pub record AddsArea (r : Rect) (old new : List Planned) : Type 0 where
  pub holds : (x y : ℕ) → some_holds (areas_of new) x y ≡ (some_holds (areas_of old) x y || holds r x y)
  pub parts : (w h : ℕ) → IsPart w h r → Each (IsPart w h) (areas_of old) → Each (IsPart w h) (areas_of new)
  pub few : length new ≤ length old + 1

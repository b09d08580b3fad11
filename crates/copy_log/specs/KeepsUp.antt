-- What holds of the copies that are passed on, and of the tiles that are lacked behind them.
use Rattle.std.specs.Prelude.{◌≡◌, ℕ, ◌<◌, Bool, true, false, ◌||◌, List, [], ◌∷◌, ◌++◌, Option, Some}
use Rattle.std.specs.List.{All, list_any}
use Rattle.raster.specs.declared.rect.Rect.{Rect}
use Rattle.raster.specs.Screen.{Canvas, IsWithin, Map, copy, holds, lies_in, tile_count, tile_rect}
use Rattle.raster.specs.Update.{Paint, Put, Copy, Resized, Update, after_updates}
use Rattle.tiles.specs.Touched.{touches}
use Rattle.copy_log.specs.Passed.{Passed, BeginsWith, IsSamePassed, has_copy, passed, passed_after, source_of}

-- What is held after several copies. Paints that are no copies change nothing of it (RFC 6143, 7.7.2).
abbrev pub moved : {A : Type 0} → Map A → List Paint → Map A
moved held [] = held
moved held (Put r colours ∷ ps) = moved held ps
moved held (Copy r sx sy ∷ ps) = moved (copy r sx sy held) ps
moved held (Resized size ∷ ps) = moved held ps

-- At each position of an area that lies in a tile that isn't lacked, what is held is the screen's colour, as f has it.
pub record HoldsBut (w h : ℕ) (area : Rect) (lacks : ℕ → Bool) (f : ℕ → ℕ) (held : Map (Option ℕ)) (screen : Canvas) : Type 0 where
  pub each : (t x y : ℕ) → t < tile_count w h → lacks t ≡ false → holds (tile_rect w h t) x y ≡ true → holds area x y ≡ true → held x y ≡ Some (f (screen x y))

-- Whoever held what the screen showed before some updates, but for the tiles that were lacked, holds after the copies
-- that are passed on what the screen shows after the updates, but for the tiles that are lacked then. The area lies in
-- the screen.
abbrev pub CopiesKeepUp : Type 0
CopiesKeepUp =
    (w h : ℕ) (area : Rect) (lacks : ℕ → Bool) (f : ℕ → ℕ) (held : Map (Option ℕ)) (before : Canvas) (us : List Update)
    → IsWithin area w h → HoldsBut w h area lacks f held before
    → HoldsBut w h area (passed w h area lacks us).lacks f (moved held (passed w h area lacks us).copies) (after_updates before us)

-- A tile that was lacked before some updates is lacked after them.
abbrev pub LackedStays : Type 0
LackedStays = (w h : ℕ) (area : Rect) (lacks : ℕ → Bool) (us : List Update) (t : ℕ) → lacks t ≡ true → (passed w h area lacks us).lacks t ≡ true

-- A tile that is lacked after some updates, and wasn't before them, is touched by one of them.
abbrev pub LackedIsTouched : Type 0
LackedIsTouched =
    (w h : ℕ) (area : Rect) (lacks : ℕ → Bool) (us : List Update) (t : ℕ) → lacks t ≡ false → (passed w h area lacks us).lacks t ≡ true
    → list_any (touches (tile_rect w h t)) us ≡ true

-- What is passed on of updates and of others behind them goes on from what is passed on of the first.
abbrev pub PassingGoesOn : Type 0
PassingGoesOn =
    (w h : ℕ) (area : Rect) (lacks : ℕ → Bool) (us vs : List Update) → passed w h area lacks (us ++ vs) ≡ passed_after w h area (passed w h area lacks us) vs

-- Of updates without copies none is passed on.
abbrev pub NonePassed : Type 0
NonePassed = (w h : ℕ) (area : Rect) (p : Passed) (us : List Update) → list_any has_copy us ≡ false → (passed_after w h area p us).copies ≡ p.copies

-- The paint is a copy. It and its source lie in an area.
abbrev pub CopyLiesIn : Rect → Paint → Type 0
CopyLiesIn area (Put r colours) = ⊥
CopyLiesIn area (Copy r sx sy) = (lies_in r area ≡ true) × (lies_in (source_of r sx sy) area ≡ true)
CopyLiesIn area (Resized size) = ⊥

-- Each copy that is passed on lies in the area, and so does its source.
abbrev pub CopiesLieIn : Type 0
CopiesLieIn = (w h : ℕ) (area : Rect) (lacks : ℕ → Bool) (us : List Update) → All (CopyLiesIn area) (passed w h area lacks us).copies

-- The copies that are passed on change nothing of what is held of a tile that none of the updates touches.
abbrev pub CopiesStayOff : Type 0
CopiesStayOff =
    (w h : ℕ) (area : Rect) (lacks : ℕ → Bool) (held : Map (Option ℕ)) (us : List Update) (t x y : ℕ) → list_any (touches (tile_rect w h t)) us ≡ false
    → holds (tile_rect w h t) x y ≡ true → moved held (passed w h area lacks us).copies x y ≡ held x y

-- Where no copy is passed on, a tile that was lacked before some updates, or that one of them touches, is lacked after
-- them.
abbrev pub TouchedIsLacked : Type 0
TouchedIsLacked =
    (w h : ℕ) (area : Rect) (lacks : ℕ → Bool) (us : List Update) (t : ℕ) → (passed w h area lacks us).copies ≡ [] → (lacks t || list_any (touches (tile_rect w h t)) us) ≡ true
    → (passed w h area lacks us).lacks t ≡ true

-- Where the same tiles of the screen were lacked before some updates, the same is passed on of these.
abbrev pub LackingSame : Type 0
LackingSame =
    (w h : ℕ) (area : Rect) (lacks others : ℕ → Bool) (us : List Update) → ((t : ℕ) → t < tile_count w h → others t ≡ lacks t)
    → IsSamePassed w h (passed w h area lacks us) (passed w h area others us)

-- Two updates that begin with the same copies, and whose other paints touch the same tiles and are no copies, come to
-- the same.
abbrev pub SameIsPassed : Type 0
SameIsPassed =
    (w h : ℕ) (area : Rect) (p q : Passed) (copies : List Paint) (touched : ℕ → Bool) (u v : Update)
    → IsSamePassed w h p q → BeginsWith w h copies touched u → BeginsWith w h copies touched v
    → IsSamePassed w h (passed_after w h area p (u ∷ [])) (passed_after w h area q (v ∷ []))

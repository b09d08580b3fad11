-- What the runs of due tiles bring, and what stays where no update touches.
use Rattle.std.specs.Prelude.{◌≡◌, ℕ, ◌^◌, ◌<◌, ◌≤◌, Bool, true, ◌&&◌, nat_lt, List, length, take, Some}
use Rattle.std.specs.List.{All, list_any}
use Rattle.raster.specs.declared.rect.Rect.{Rect}
use Rattle.raster.specs.Screen.{IsWithin, holds, tile_count, tile_rect}
use Rattle.raster.specs.Update.{Update, screen}
use Rattle.tiles.specs.Touched.{is_due_since, last_touch, runs}

-- A rectangle lies on the screen and isn't empty.
pub record IsPart (w h : ℕ) (r : Rect) : Type 0 where
  pub inside : IsWithin r w h
  pub wide : 0 < r.w
  pub high : 0 < r.h

-- A position lies in one of these rectangles.
abbrev pub some_holds : List Rect → ℕ → ℕ → Bool
some_holds rs x y = list_any (λ r. holds r x y) rs

-- These rectangles hold exactly the positions of an area that lie in due tiles. Each is a part of the screen. There are
-- few enough for a FramebufferUpdate, which counts its rectangles in 16 bits, and for some in front of them.
pub record BringTheDue (w h : ℕ) (area : Rect) (due : ℕ → Bool) (rs : List Rect) : Type 0 where
  pub exactly : (t x y : ℕ) → t < tile_count w h → holds (tile_rect w h t) x y ≡ true → some_holds rs x y ≡ (holds area x y && due t)
  pub parts : All (IsPart w h) rs
  pub few : length rs ≤ 2 ^ 15

-- The runs of an area bring exactly what is due.
abbrev pub RunsBringTheDue : Type 0
RunsBringTheDue = (w h : ℕ) (area : Rect) (due : ℕ → Bool) → w ≤ 4096 → h ≤ 4096 → IsWithin area w h → BringTheDue w h area due (runs w h area due)

-- A rectangle that no update after the first n touches looks as it did after these.
abbrev pub UntouchedStays : Type 0
UntouchedStays = (r : Rect) (us : List Update) (n x y : ℕ) → last_touch r us ≤ n → holds r x y ≡ true → screen us x y ≡ screen (take n us) x y

-- A rectangle that was sent at n is due exactly where it was touched after n.
abbrev pub DueWhereTouched : Type 0
DueWhereTouched = (r : Rect) (us : List Update) (n : ℕ) → is_due_since r (Some n) us ≡ nat_lt n (last_touch r us)

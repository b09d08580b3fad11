-- Which copies of a host a viewer is sent, and which tiles it lacks behind them (RFC 6143, 7.6.1 and 7.7.2).
use Rattle.std.specs.Prelude.{◌≡◌, ℕ, ◌<◌, Bool, true, false, not, ◌&&◌, ◌||◌, if◌then◌else◌, List, [], ◌∷◌, ◌++◌}
use Rattle.std.specs.List.{list_any, range_with_len}
use Rattle.raster.specs.declared.rect.Rect.{Rect}
use Rattle.raster.specs.Screen.{lies_in, meets, tile_count, tile_rect}
use Rattle.raster.specs.Update.{Paint, Put, Copy, Resized, Update, everything, painted, paints_of}

-- The copies of the host that a viewer is sent, in order, and the tiles that it lacks behind them (own).
pub record Passed : Type 0 where
  pub copies : List Paint
  pub lacks : ℕ → Bool

-- The rectangle of which a copy to r is made. Its top left is sx, sy (RFC 6143, 7.7.2).
abbrev pub source_of : Rect → ℕ → ℕ → Rect
source_of r sx sy = record { x = sx; y = sy; w = r.w; h = r.h }

-- All of a rectangle is held: it meets no tile that is lacked (own).
abbrev pub is_held : ℕ → ℕ → (ℕ → Bool) → Rect → Bool
is_held w h lacks r = not (list_any (λ t. lacks t && meets r (tile_rect w h t)) (range_with_len 0 (tile_count w h)))

-- A copy can be passed on: its target and its source lie in the area, and all of its source is held (own).
abbrev pub can_pass : ℕ → ℕ → Rect → (ℕ → Bool) → Rect → ℕ → ℕ → Bool
can_pass w h area lacks r sx sy = (lies_in r area && lies_in (source_of r sx sy) area) && is_held w h lacks (source_of r sx sy)

-- Tile t is lacked, or meets a rectangle (own).
abbrev pub or_meets : ℕ → ℕ → (ℕ → Bool) → Rect → ℕ → Bool
or_meets w h lacks r t = lacks t || meets r (tile_rect w h t)

-- The same copies, where each tile that meets a rectangle is lacked as well (own).
abbrev pub lacking : ℕ → ℕ → Passed → Rect → Passed
lacking w h p r = record { copies = p.copies; lacks = or_meets w h p.lacks r }

-- One copy more, where the same tiles are lacked (own).
abbrev pub with_copy : Passed → Paint → Passed
with_copy p copy = record { copies = p.copies ++ copy ∷ []; lacks = p.lacks }

-- After a paint: a copy that can be passed on is, and what any other paint touches is lacked. A tile that a passed copy
-- touches isn't lacked, unless it was: whoever held it before the copy holds it behind it (own).
abbrev pub passed_after_paint : ℕ → ℕ → Rect → Passed → Paint → Passed
passed_after_paint w h area p (Put r colours) = lacking w h p r
passed_after_paint w h area p (Copy r sx sy) = if can_pass w h area p.lacks r sx sy then with_copy p (Copy r sx sy) else lacking w h p r
passed_after_paint w h area p (Resized size) = lacking w h p everything

-- After several paints, in order.
abbrev pub passed_after_paints : ℕ → ℕ → Rect → Passed → List Paint → Passed
passed_after_paints w h area p [] = p
passed_after_paints w h area p (x ∷ xs) = passed_after_paints w h area (passed_after_paint w h area p x) xs

-- After all paints of several updates.
abbrev pub passed_after : ℕ → ℕ → Rect → Passed → List Update → Passed
passed_after w h area p [] = p
passed_after w h area p (u ∷ us) = passed_after w h area (passed_after_paints w h area p (paints_of u)) us

-- What is passed on of these updates to a viewer of an area of a screen of w by h that lacked these tiles before them
-- (own).
abbrev pub passed : ℕ → ℕ → Rect → (ℕ → Bool) → List Update → Passed
passed w h area lacks us = passed_after w h area (record { copies = []; lacks = lacks }) us

-- Both have the same copies, and the same tiles of a screen of w by h are lacked.
pub record IsSamePassed (w h : ℕ) (p q : Passed) : Type 0 where
  pub copies : q.copies ≡ p.copies
  pub lacks : (t : ℕ) → t < tile_count w h → q.lacks t ≡ p.lacks t

-- ---- updates that come to the same

-- The paint is a copy.
abbrev pub is_copy : Paint → Bool
is_copy (Put r colours) = false
is_copy (Copy r sx sy) = true
is_copy (Resized size) = false

-- An update has a copy among its paints.
abbrev pub has_copy : Update → Bool
has_copy u = list_any is_copy (paints_of u)

-- The rectangle that one of these paints changes meets tile t of a screen of w by h.
abbrev pub some_touch : ℕ → ℕ → List Paint → ℕ → Bool
some_touch w h ps t = list_any (λ p. meets (painted p) (tile_rect w h t)) ps

-- An update begins with these copies, and its other paints, which are no copies, touch the tiles that pass a test.
pub record BeginsWith (w h : ℕ) (copies : List Paint) (touched : ℕ → Bool) (u : Update) : Type 0 where
  pub others : List Paint
  pub paints : paints_of u ≡ copies ++ others
  pub no_copies : list_any is_copy others ≡ false
  pub tiles : (t : ℕ) → t < tile_count w h → some_touch w h others t ≡ touched t

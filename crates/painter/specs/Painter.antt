-- The screen on which a host's update is painted as it comes, and the tiles that its patch brings.
use Rattle.std.specs.Prelude.{◌≡◌, ℕ, ◌<◌, Bool, ◌==◌, List, map, filter, length, slice_index, Option, None}
use Rattle.std.specs.List.{range_with_len, sum_by}
use Rattle.raster.specs.declared.rect.Rect.{Rect}
use Rattle.raster.specs.declared.size.Size.{Size}
use Rattle.raster.specs.Screen.{Canvas, LooksLike, part_of, tile_count, tile_rect, value_at, values_of}
use Rattle.raster.specs.Update.{Paint, Put, Copy, Resized, Paints, after_paints, size_told}
use Rattle.tiles.specs.Touched.{touches}
use Rattle.painter.specs.Copies.{can_lead, leading_copies, other_paints}

-- The size of the screen, its colours row after row, the copies that the update which is being read began with, whether
-- one copy more would be one of those, a mark for each tile (1 where another paint has touched it), the rectangle that
-- is drawn on, and the new size that this update has told, if it has told one.
pub record Painting : Type 0 where
  pub width : ℕ
  pub height : ℕ
  pub colours : List ℕ
  pub copies : List Paint
  pub leads : Bool
  pub marks : List ℕ
  pub area : Rect
  pub told : Option Size

-- What the screen shows.
abbrev pub worked : Painting → Canvas
worked screen = value_at screen.width screen.colours

-- A tile was touched by another paint than those copies.
abbrev pub is_touched : Painting → ℕ → Bool
is_touched screen t = slice_index screen.marks t == 1

-- The tiles below number n that were touched by other paints, in rising order.
abbrev pub touched_below : Painting → ℕ → List ℕ
touched_below screen n = filter (is_touched screen) (range_with_len 0 n)

-- The screen shows these paints over what it showed at the update's start. Its copies are those that the paints begin
-- with, it says whether one more would be one of these, and the tiles that were touched are those that at least one of
-- the other paints touches. The new size is the last that a paint tells.
pub record IsPaintedOver (start : Canvas) (paints : List Paint) (screen : Painting) : Type 0 where
  pub shows : LooksLike screen.width screen.height (worked screen) (after_paints start paints)
  pub copies : screen.copies ≡ leading_copies paints
  pub leads : screen.leads ≡ can_lead paints
  pub touched : (t : ℕ) → t < tile_count screen.width screen.height → is_touched screen t ≡ touches (tile_rect screen.width screen.height t) (Paints None (other_paints paints))
  pub told : screen.told ≡ size_told paints

-- Both are of one screen size.
pub record IsAsLarge (screen other : Painting) : Type 0 where
  pub width : other.width ≡ screen.width
  pub height : other.height ≡ screen.height

-- ---- the patch of an update

-- The colours of a rectangle, row after row.
abbrev pub colours_in : Canvas → Rect → List ℕ
colours_in screen r = values_of r.w r.h (part_of r screen)

-- The paint that puts a whole tile of a screen of w by h, in the colours that the screen shows there.
abbrev pub tile_put : ℕ → ℕ → Canvas → ℕ → Paint
tile_put w h screen t = Put (tile_rect w h t) (colours_in screen (tile_rect w h t))

-- The paints of the tiles that a test lets through, each once, in rising order.
abbrev pub tile_puts : ℕ → ℕ → Canvas → (ℕ → Bool) → List Paint
tile_puts w h screen passes = map (tile_put w h screen) (filter passes (range_with_len 0 (tile_count w h)))

-- How many colours a paint has.
abbrev pub colour_count : Paint → ℕ
colour_count (Put r colours) = length colours
colour_count (Copy r sx sy) = 0
colour_count (Resized size) = 0

-- How many colours these paints have in all.
abbrev pub colours_of : List Paint → ℕ
colours_of paints = sum_by colour_count paints

-- What one whole message of the host changes on a screen.
use Rattle.std.specs.Prelude.{◌≡◌, ℕ, ◌*◌, ◌<◌, ◌≤◌, Bool, true, false, List, [], ◌∷◌, ◌++◌, length, take, drop, All, Option, Some, None}
use Rattle.std.specs.List.{sum_by}
use Rattle.std.specs.List.Sorted.{IsStrictlyIncreasing}
use Rattle.raster.specs.declared.size.Size.{Size}
use Rattle.raster.specs.Screen.{Canvas, LooksLike, part_of, tile_count, tile_rect, value_at}
use Rattle.raster.specs.Update.{Paint, Put, Update, Paints, Bell, Cut, after_paints, paints_of}
use Rattle.copy_log.specs.Notes.{paints}
use Rattle.painter.specs.Copies.{AreCopies}
use Rattle.painter.specs.declared.patch.Change.{Change}
use Rattle.painter.specs.declared.patch.Change.TheVariants as code
use Rattle.fault.specs.declared.limits.TheConstants.{LONGEST_TEXT}

-- An update, and the width and height of the screen that it is for.
pub record SizedUpdate : Type 0 where
  pub width : ℕ
  pub height : ℕ
  pub update : Update

-- How many positions tile t of a screen of w by h has.
abbrev pub tile_area : ℕ → ℕ → ℕ → ℕ
tile_area w h t = let r = tile_rect w h t in r.w * r.h

-- The paints of whole tiles of a screen of w by h, whose colours stand one tile after the other.
abbrev pub tile_paints : ℕ → ℕ → List ℕ → List ℕ → List Paint
tile_paints w h [] colours = []
tile_paints w h (t ∷ ts) colours = Put (tile_rect w h t) (take (tile_area w h t) colours) ∷ tile_paints w h ts (drop (tile_area w h t) colours)

-- These are numbers of tiles of a screen of w by h, and there is a colour for each position of these tiles.
pub record AreTiles (w h : ℕ) (numbers colours : List ℕ) : Type 0 where
  pub there : All (λ t. t < tile_count w h) numbers
  pub count : length colours ≡ sum_by (tile_area w h) numbers

-- These are numbers of tiles, each at most once and in rising order, with at most one colour for each position of the
-- screen.
pub record AreTouchedTiles (w h : ℕ) (numbers colours : List ℕ) : Type 0 where
  pub tiles : AreTiles w h numbers colours
  pub rising : IsStrictlyIncreasing numbers
  pub few : length colours ≤ w * h

-- The update that a Change in the code stands for.
abbrev pub update_of : ℕ → ℕ → Change → Update
update_of w h (code.Tiles size copies numbers colours) = Paints size (paints copies.items ++ tile_paints w h numbers.items colours.items)
update_of w h code.Bell = Bell
update_of w h (code.Text text) = Cut text.items

-- A new size, if there is one, is at most that of a screen of w by h.
abbrev pub IsWithinScreen : ℕ → ℕ → Option Size → Type 0
IsWithinScreen w h None = Unit {0}
IsWithinScreen w h (Some size) = (size.width ≤ w) × (size.height ≤ h)

-- The tiles of a change are tiles of a screen of w by h, each at most once, its copies and their sources lie on that
-- screen, and its new size is at most as large; its text has at most 65,536 bytes.
abbrev pub IsFor : ℕ → ℕ → Change → Type 0
IsFor w h (code.Tiles size copies numbers colours) = IsWithinScreen w h size × AreCopies w h copies.items × AreTouchedTiles w h numbers.items colours.items
IsFor w h code.Bell = Unit {0}
IsFor w h (code.Text text) = length text.items ≤ LONGEST_TEXT

-- The new colours show the paints of the patch over whatever the old colours look like.
abbrev pub ShowsOver : SizedUpdate → List ℕ → List ℕ → Type 0
ShowsOver patch old new =
    (before : Canvas) → LooksLike patch.width patch.height (value_at patch.width old) before
    → LooksLike patch.width patch.height (value_at patch.width new) (after_paints before (paints_of patch.update))

-- These colours of a screen are what painting the patch over some older ones leaves.
abbrev pub IsPainted : SizedUpdate → List ℕ → Type 0
IsPainted patch colours = (old : List ℕ) × ShowsOver patch old colours

-- A screen of w by h shows these tiles in these colours, which stand one tile after the other.
abbrev pub ShowsTiles : ℕ → ℕ → List ℕ → List ℕ → Canvas → Type 0
ShowsTiles w h [] colours screen = Unit {0}
ShowsTiles w h (t ∷ ts) colours screen =
    LooksLike (tile_rect w h t).w (tile_rect w h t).h (part_of (tile_rect w h t) screen) (value_at (tile_rect w h t).w (take (tile_area w h t) colours))
    × ShowsTiles w h ts (drop (tile_area w h t) colours) screen

-- ---- what kind of update it is

-- The update is a Bell.
abbrev pub is_bell : Update → Bool
is_bell (Paints size paints) = false
is_bell Bell = true
is_bell (Cut text) = false

-- The text of an update, where it is a text.
abbrev pub text_of : Update → Option (List ℕ)
text_of (Paints size paints) = None
text_of Bell = None
text_of (Cut text) = Some text

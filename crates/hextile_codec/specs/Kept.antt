-- The form of a tile by its colours, as it is kept for as long as they stay.
use Rattle.std.specs.Prelude.{◌≡◌, ℕ, ◌^◌, ◌<◌, List, length, map, slice_index_or, Option, None, IfSome}
use Rattle.pixel_format.specs.PixelFormat.{PixelFormat}
use Rattle.raster.specs.Screen.{Canvas, part_of, tile_count, tile_rect}
use Rattle.joined_runs.specs.declared.rect_form.RectForm.TheVariants.{OfRows, Joined}
use Rattle.joined_runs.specs.Joined.{subrects_of}
use Rattle.joined_runs.specs.Tinted.{ShowsApart}
use Rattle.hextile_codec.specs.declared.kept.TileForm.{TileForm}
use Rattle.hextile_codec.specs.Heads.{IsHeadOf}
use Rattle.hextile_codec.specs.TileKinds.{subrect_of}

-- Each position of a rectangle of w by h has a colour.
abbrev pub AreColours : ℕ → ℕ → Canvas → Type 0
AreColours w h colours = (x y : ℕ) → x < w → y < h → colours x y < 2 ^ 24

-- A kept form is that of a tile of w by h of these colours: its heads in both forms, and its joined subrectangles.
pub record FormStands (form : TileForm) (w h : ℕ) (colours : Canvas) : Type 0 where
  pub are_colours : AreColours w h colours
  pub joined : IsHeadOf Joined w h colours form.joined
  pub rows : IsHeadOf OfRows w h colours form.rows
  pub runs : map subrect_of form.runs.items ≡ subrects_of Joined w h colours

-- Of the tiles of a rectangle of w by h, from the first on, each form that is kept is that of colours which the tile
-- shows, in a format that keeps them apart.
abbrev pub AreKept : PixelFormat → ℕ → ℕ → Canvas → List (Option TileForm) → Type 0
AreKept format w h shown forms =
    (k : ℕ) → k < length forms → k < tile_count w h
    → IfSome (slice_index_or forms k None) (λ form. (colours : Canvas) × FormStands form (tile_rect w h k).w (tile_rect w h k).h colours × ShowsApart format (tile_rect w h k).w (tile_rect w h k).h colours (part_of (tile_rect w h k) shown))

-- Of the tiles of a screen of width by height, from the first on, each form that is kept is that of the tile's colours.
abbrev pub AreFormsOf : ℕ → ℕ → Canvas → List (Option TileForm) → Type 0
AreFormsOf width height colours forms =
    (t : ℕ) → t < length forms → t < tile_count width height
    → IfSome (slice_index_or forms t None) (λ form. FormStands form (tile_rect width height t).w (tile_rect width height t).h (part_of (tile_rect width height t) colours))

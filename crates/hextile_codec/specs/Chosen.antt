-- What tiles with kept forms are written as, as joined runs.
use Rattle.std.specs.Prelude.{◌≡◌, ℕ, zero, suc, ◌<◌, List, length, map, slice_index_or, Option, Some, None}
use Rattle.pixel_format.specs.PixelFormat.{PixelFormat}
use Rattle.raster.specs.Screen.{Canvas, part_of, tile_rect}
use Rattle.raster.specs.Encoding.{Carried, nothing_carried}
use Rattle.joined_runs.specs.declared.rect_form.RectForm.TheVariants.{Joined}
use Rattle.joined_runs.specs.Joined.{tile_bytes_as}
use Rattle.joined_runs.specs.Tinted.{tinted_subrect}
use Rattle.hextile_codec.specs.declared.kept.TileForm.{TileForm}
use Rattle.hextile_codec.specs.declared.tile_kind.TileChoice.{TileChoice}
use Rattle.hextile_codec.specs.TileKinds.{IsChosen, subrect_of}

-- What the tiles before number k of a rectangle of w by h leave it, as joined runs.
abbrev pub carried_to : PixelFormat → ℕ → ℕ → Canvas → ℕ → Carried
carried_to format w h shown zero = nothing_carried
carried_to format w h shown (suc k) =
    (tile_bytes_as Joined format (carried_to format w h shown k) (tile_rect w h k).w (tile_rect w h k).h (part_of (tile_rect w h k) shown)).1

-- Tile k has a kept form, by which it is written as joined runs as this choice says.
pub record IsChosenBy (format : PixelFormat) (w h : ℕ) (shown : Canvas) (forms : List (Option TileForm)) (k : ℕ) (choice : TileChoice) : Type 0 where
  pub form : TileForm
  pub kept : slice_index_or forms k None ≡ Some form
  pub chosen : IsChosen Joined format (carried_to format w h shown k) (tile_rect w h k).w (tile_rect w h k).h (part_of (tile_rect w h k) shown) (map (tinted_subrect format) (map subrect_of form.runs.items)) choice

-- These are the choices of tiles by their kept forms, from the first on.
abbrev pub AreChosenBy : PixelFormat → ℕ → ℕ → Canvas → List (Option TileForm) → List TileChoice → Type 0
AreChosenBy format w h shown forms choices = (k : ℕ) (none : TileChoice) → k < length choices → IsChosenBy format w h shown forms k (slice_index_or choices k none)

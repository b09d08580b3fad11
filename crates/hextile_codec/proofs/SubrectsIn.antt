-- The subrectangles of a tile, of values or of colours.
use Rattle.std.proofs.Common.{◌≡◌, ℕ, ◌≤◌, Bool, List, [], ◌∷◌, ◌++◌, true, false, map, refl, ap}
use Rattle.std.specs.List.{flat_map}
use Rattle.pixel_format.specs.PixelFormat.{PixelFormat}
use Rattle.std.specs.List.{All}
use Rattle.std.proofs.lemmas.List.Elements.{All-nil, All-cons}
use Rattle.raster.specs.Encoding.{place_bytes}
use Rattle.raster.specs.Screen.{Canvas}
use Rattle.raster.proofs.Spellings.{Each}
use Rattle.joined_runs.specs.declared.rect_form.RectForm.{RectForm}
use Rattle.joined_runs.specs.Joined.{subrects_of}
use Rattle.joined_runs.specs.Tinted.{tinted_subrect}
use Rattle.hextile_codec.specs.declared.runs.Run.{Run}
use Rattle.hextile_codec.specs.TileKinds.{IsSmall, subrect_of}
use Rattle.hextile_codec.specs.Subrects.{subrect_in}
use Rattle.hextile_codec.proofs.Drawings.{each_small, is_small}

-- Their places are those of the runs.
pub places_in : (format : PixelFormat) (is_colour : Bool) (runs : List Run) → flat_map place_bytes (map (subrect_in format is_colour) runs) ≡ flat_map place_bytes (map subrect_of runs)
places_in format is_colour [] = refl
places_in format is_colour (r ∷ rs) = ap (λ t. place_bytes (subrect_of r) ++ t) (places_in format is_colour rs)

pub of_values_in : (format : PixelFormat) (runs : List Run) → map (subrect_in format false) runs ≡ map subrect_of runs
of_values_in format [] = refl
of_values_in format (r ∷ rs) = ap (λ t. subrect_of r ∷ t) (of_values_in format rs)

pub of_colours_in : (format : PixelFormat) (runs : List Run) → map (subrect_in format true) runs ≡ map (tinted_subrect format) (map subrect_of runs)
of_colours_in format [] = refl
of_colours_in format (r ∷ rs) = ap (λ t. tinted_subrect format (subrect_of r) ∷ t) (of_colours_in format rs)

all_small : (format : PixelFormat) (is_colour : Bool) (rs : List Run) → Each is_small (map (subrect_in format is_colour) rs) → All IsSmall rs
all_small format is_colour [] e = All-nil IsSmall
all_small format is_colour (r ∷ rs) e = All-cons IsSmall r rs (record { x = e.0.0; y = e.0.1; some = e.0.2; most = e.0.3; high = e.0.4 }) (all_small format is_colour rs e.1)

-- The runs of a tile's subrectangles lie in the tile.
pub small_in : (form : RectForm) (canvas : Canvas) (w h : ℕ) (format : PixelFormat) (is_colour : Bool) (rs : List Run) → w ≤ 16 → h ≤ 16 → map (subrect_in format is_colour) rs ≡ subrects_of form w h canvas → All IsSmall rs
small_in form canvas w h format is_colour rs lw lh e = all_small format is_colour rs (rw e (each_small form canvas w h lw lh))

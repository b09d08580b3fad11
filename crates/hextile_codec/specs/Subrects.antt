-- The subrectangles of a tile as they are put.
use Rattle.std.specs.Prelude.{Bool, if◌then◌else◌, List, map}
use Rattle.pixel_format.specs.PixelFormat.{PixelFormat, tint}
use Rattle.raster.specs.Encoding.{Subrect}
use Rattle.hextile_codec.specs.declared.put.Subrects.{Subrects}
use Rattle.hextile_codec.specs.declared.runs.Run.{Run}
use Rattle.hextile_codec.specs.TileKinds.{subrect_of}

-- A run as a subrectangle of its value or, where that is a colour, of the colour's pixel value.
abbrev pub subrect_in : PixelFormat → Bool → Run → Subrect
subrect_in format is_colour run =
    record { value = if is_colour then tint format run.value else run.value; area = (subrect_of run).area }

-- All of them.
abbrev pub subrects_in : PixelFormat → Subrects → List Subrect
subrects_in format s = map (subrect_in format s.are_colours) s.runs.now

use Rattle.std.proofs.Common.{◌≡◌, map, take}
use Rattle.raster.specs.Colours.{colour_in}
use Rattle.raster.proofs.colours.make_colours.Given as goal

abbrev pub invariant-loop-i : goal.invariant-loop-i
invariant-loop-i l = take l.i l.colours ≡ map colour_in (take l.i l.pixels)

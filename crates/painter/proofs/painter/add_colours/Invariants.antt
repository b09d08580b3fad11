use Rattle.std.proofs.Common.{◌≡◌, ◌++◌}
use Rattle.raster.specs.Picture.{shown}
use Rattle.raster.specs.Screen.{part_of, values_of}
use Rattle.painter.proofs.painter.add_colours.Given as goal

abbrev pub invariant-loop-y : goal.invariant-loop-y
invariant-loop-y l = l.colours.items ≡ l.fn.colours.items ++ values_of l.area.w l.y (part_of l.area (shown l.raster))

use Rattle.std.proofs.Common.{◌≡◌}
use Rattle.raster.specs.Screen.{part_of, value_at, values_of}
use Rattle.update_encoder.proofs.copied.same_colours.Given as goal

abbrev pub invariant-loop-row : goal.invariant-loop-row
invariant-loop-row l = values_of l.above.w l.row (part_of l.above (value_at l.width l.colours)) ≡ values_of l.area.w l.row (part_of l.area (value_at l.width l.colours))

use Rattle.raster.specs.Screen.{value_at, part_of}
use Rattle.hextile_codec.specs.Kept.{AreColours}
use Rattle.hextile_codec.proofs.coloured.is_coloured.Given as goal

abbrev pub invariant-loop-y : goal.invariant-loop-y
invariant-loop-y l = AreColours l.tile.w l.y (part_of l.tile (value_at l.w l.numbers))

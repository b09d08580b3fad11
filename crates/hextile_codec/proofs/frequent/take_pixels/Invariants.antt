use Rattle.std.proofs.Common.{◌≡◌, ◌*◌, take}
use Rattle.raster.specs.Screen.{value_at, part_of, values_of}
use Rattle.hextile_codec.proofs.frequent.take_pixels.Given as goal

abbrev pub invariant-loop-y : goal.invariant-loop-y
invariant-loop-y l = l.pixels.items ≡ take (l.y * l.tile.w) (values_of l.tile.w l.tile.h (part_of l.tile (value_at l.w l.values)))

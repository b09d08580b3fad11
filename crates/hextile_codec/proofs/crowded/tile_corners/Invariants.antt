use Rattle.std.proofs.Common.{◌*◌, ◌≤◌}
use Rattle.raster.specs.Screen.{value_at, part_of}
use Rattle.hextile_codec.specs.Crowded.{AreBegun}
use Rattle.hextile_codec.proofs.crowded.tile_corners.Given as goal

abbrev pub invariant-loop-y : goal.invariant-loop-y
invariant-loop-y l = record { few : l.corners ≤ 16 * l.y; begun : AreBegun (part_of l.tile (value_at l.w l.values)) l.tile.h l.y l.corners }

use Rattle.std.proofs.Common.{[]}
use Rattle.raster.specs.Screen.{value_at, part_of}
use Rattle.hextile_codec.proofs.TileRuns.{AreAbove}
use Rattle.hextile_codec.proofs.runs.is_plain.Given as goal

abbrev pub invariant-loop-y : goal.invariant-loop-y
invariant-loop-y l = AreAbove (part_of l.tile (value_at l.w l.values)) l.background l.tile.w l.tile.h l.y []

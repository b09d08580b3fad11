use Rattle.std.proofs.Common.{◌*◌, ◌≤◌, length}
use Rattle.raster.specs.Screen.{value_at, part_of}
use Rattle.hextile_codec.proofs.TileRuns.{AreAbove}
use Rattle.hextile_codec.proofs.runs.find_each_row.Given as goal

abbrev pub invariant-loop-y : goal.invariant-loop-y
invariant-loop-y l =
    record {
      few : length l.found.items ≤ l.y * l.tile.w;
      above : AreAbove (part_of l.tile (value_at l.w l.values)) l.background l.tile.w l.tile.h l.y l.found.items;
    }

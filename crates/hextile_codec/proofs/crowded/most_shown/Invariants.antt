use Rattle.std.proofs.Common.{◌*◌, ◌<◌, ◌≤◌}
use Rattle.raster.specs.Screen.{value_at, part_of}
use Rattle.hextile_codec.proofs.Shown.{IsMost}
use Rattle.hextile_codec.proofs.crowded.most_shown.Given as goal

abbrev pub invariant-loop-y : goal.invariant-loop-y
invariant-loop-y l =
    record {
      inside : l.top < l.y;
      few : l.most ≤ 256 * l.y;
      most : IsMost (part_of l.tile (value_at l.w l.values)) l.top l.y l.most;
    }

use Rattle.std.proofs.Common.{◌≡◌, ◌*◌, ◌≤◌, take}
use Rattle.raster.specs.Screen.{value_at, part_of, values_of}
use Rattle.joined_runs.specs.Joined.{count_of}
use Rattle.hextile_codec.proofs.frequent.shows_most.Given as goal

abbrev pub invariant-loop-y : goal.invariant-loop-y
invariant-loop-y l =
    record {
      few : l.shown ≤ 16 * l.y;
      count : l.shown ≡ count_of (take (l.y * l.tile.w) (values_of l.tile.w l.tile.h (part_of l.tile (value_at l.w l.values)))) l.first;
    }

use Rattle.std.proofs.Common.{◌≡◌, ◌*◌, ◌≤◌}
use Rattle.raster.specs.Screen.{value_at, part_of}
use Rattle.raster.proofs.RunCount.{counted}
use Rattle.raster.proofs.run_count.has_runs.Given as goal

abbrev pub invariant-loop-y : goal.invariant-loop-y
invariant-loop-y l =
    record {
      few : l.count ≤ l.y * 65536;
      is : l.count ≡ counted (part_of l.area (value_at l.w l.values)) l.area.w l.y;
    }

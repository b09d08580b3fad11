use Rattle.std.proofs.Common.{◌-◌, ◌≤◌, length, ◌≡◌}
use Rattle.raster.specs.Moved.{IsMoved}
use Rattle.raster.proofs.moving.move_down.Given as goal

abbrev pub invariant-loop-moved : goal.invariant-loop-moved
invariant-loop-moved l =
    record {
      few : l.moved ≤ l.count;
      size : length l.values ≡ length l.fn.values;
      done : IsMoved l.fn.values l.values l.from l.to l.moved;
    }

abbrev pub decreases-loop-moved : goal.decreases-loop-moved
decreases-loop-moved l = l.count - l.moved

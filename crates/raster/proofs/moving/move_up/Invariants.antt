use Rattle.std.proofs.Common.{◌+◌, ◌-◌, ◌≤◌, length, ◌≡◌}
use Rattle.raster.specs.Moved.{IsMoved}
use Rattle.raster.proofs.moving.move_up.Given as goal

abbrev pub invariant-loop-left : goal.invariant-loop-left
invariant-loop-left l =
    record {
      few : l.left ≤ l.count;
      size : length l.values ≡ length l.fn.values;
      done : IsMoved l.fn.values l.values (l.from + l.left) (l.to + l.left) (l.count - l.left);
    }

abbrev pub decreases-loop-left : goal.decreases-loop-left
decreases-loop-left l = l.left

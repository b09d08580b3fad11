use Rattle.std.proofs.Common.{◌≡◌, ℕ, ◌+◌, ◌≤◌, length}
use Rattle.raster.proofs.RunCount.{begun}
use Rattle.raster.proofs.run_count.count_long_row.Given as goal

abbrev pub invariant-loop-x : goal.invariant-loop-x
invariant-loop-x l =
    record {
      inside : l.x ≤ length l.row;
      all : (y : ℕ) → begun l.row l.background y l.x + l.others ≡ l.x;
    }

use Rattle.std.proofs.Common.{◌≡◌, ℕ, ◌-◌, ◌<◌, ◌≤◌, get_or}
use Rattle.raster.proofs.RunCount.{begun}
use Rattle.raster.proofs.run_count.count_short_row.Given as goal

abbrev pub invariant-loop-x : goal.invariant-loop-x
invariant-loop-x l =
    record {
      few : l.count ≤ l.x;
      first : l.x ≡ 0 → l.before ≡ l.background;
      behind : 0 < l.x → l.before ≡ get_or l.row (l.x - 1) 0;
      is : (y : ℕ) → l.count ≡ begun l.row l.background y l.x;
    }

use Rattle.std.proofs.Common.{◌≡◌, ℕ, ◌+◌, ◌-◌, ◌<◌, ◌≤◌, true}
use Rattle.raster.specs.Screen.{Canvas}
use Rattle.raster.specs.Encoding.{begins_run, run_from}
use Rattle.joined_runs.specs.Joined.{stands_in}
use Rattle.hextile_codec.specs.Places.{AreJoins}
use Rattle.hextile_codec.proofs.listing.height.Given as goal

abbrev pub invariant-loop-end : goal.invariant-loop-end
invariant-loop-end l =
    record {
      below : l.y + 1 ≤ l.end;
      inside : l.end ≤ 16;
      have : (canvas : Canvas) (background : ℕ) → AreJoins canvas background l.joins → begins_run canvas background l.y l.x ≡ true → (k : ℕ) → l.y ≤ k → k < l.end → stands_in canvas 16 (run_from canvas 16 l.y l.x) k ≡ true;
    }

abbrev pub decreases-loop-end : goal.decreases-loop-end
decreases-loop-end l = 16 - l.end

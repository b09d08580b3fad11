use Rattle.std.proofs.Common.{◌≡◌, ℕ, ◌-◌, ◌<◌, ◌≤◌, length, get_or}
use Rattle.raster.specs.Screen.{Canvas}
use Rattle.rre_codec.specs.Corners.{corners_before}
use Rattle.rre_codec.proofs.corners.count_corners.Given as goal

abbrev pub invariant-loop-x : goal.invariant-loop-x
invariant-loop-x l =
    record {
      inside : l.x ≤ length l.row;
      few : l.corners ≤ l.x;
      so_far : (canvas : Canvas) (y : ℕ) → ((x : ℕ) → x < length l.row → get_or l.row x 0 ≡ canvas x y) → ((x : ℕ) → x < length l.row → get_or l.above x 0 ≡ canvas x (y - 1)) → l.corners ≡ corners_before canvas l.background y l.x;
    }

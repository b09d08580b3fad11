use Rattle.std.proofs.Common.{◌*◌, ◌≤◌, length}
use Rattle.raster.specs.Screen.{value_at}
use Rattle.rre_codec.proofs.Begun.{joined_before}
use Rattle.rre_codec.proofs.corners.has_joined.Given as goal

abbrev pub invariant-loop-y : goal.invariant-loop-y
invariant-loop-y l =
    record {
      few : l.count ≤ l.y * 65536;
      so_far : l.count ≤ length (joined_before (value_at l.w l.values) (value_at l.w l.values 0 0) l.w l.h l.y);
    }

use Rattle.std.proofs.Common.{◌≡◌, ◌-◌, ◌<◌, length}
use Rattle.raster.specs.Screen.{value_at}
use Rattle.raster.specs.Encoding.{runs_of_row}
use Rattle.raster.proofs.RowScan.{IsFresh, runs_behind}
use Rattle.joined_runs.specs.Joined.{written}
use Rattle.rre_codec.proofs.RunsPut.{HasPut}
use Rattle.rre_codec.proofs.writing.put_row.Given as goal

abbrev pub invariant-loop-x : goal.invariant-loop-x
invariant-loop-x l =
    record {
      room : l.end < length l.out;
      whole : length l.out ≡ length l.fn.out;
      fresh : l.x < l.w → IsFresh (value_at l.w l.values) l.y l.x;
      put : HasPut l.format (written l.form (value_at l.w l.values) l.w l.h (runs_of_row (value_at l.w l.values) l.background l.w l.y)) (written l.form (value_at l.w l.values) l.w l.h (runs_behind (value_at l.w l.values) l.background l.w l.y l.x)) l.fn.out l.out l.used l.end;
    }

abbrev pub decreases-loop-x : goal.decreases-loop-x
decreases-loop-x l = l.w - l.x

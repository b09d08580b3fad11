use Rattle.std.proofs.Common.{◌≡◌, ◌+◌, ◌<◌, length}
use Rattle.pixel_format.specs.PixelFormat.{pixel_len}
use Rattle.raster.specs.Screen.{value_at}
use Rattle.raster.specs.Encoding.{runs}
use Rattle.joined_runs.specs.Joined.{written}
use Rattle.rre_codec.proofs.RunsPut.{HasPut, runs_below}
use Rattle.rre_codec.proofs.writing.put_runs.Given as goal

abbrev pub invariant-loop-y : goal.invariant-loop-y
invariant-loop-y l =
    record {
      room : l.used < length l.out;
      whole : length l.out ≡ length l.fn.out;
      put : HasPut l.format (written l.form (value_at l.w l.values) l.w l.h (runs (value_at l.w l.values) l.w l.h)) (written l.form (value_at l.w l.values) l.w l.h (runs_below (value_at l.w l.values) l.w l.h l.y)) l.initial.out l.out (4 + pixel_len l.format) l.used;
    }

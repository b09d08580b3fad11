use Rattle.std.proofs.Common.{◌≡◌, ◌*◌, take, length}
use Rattle.pixel_format.specs.PixelFormat.{pixel_len, row_bytes}
use Rattle.raster.specs.Screen.{value_at, values_of, part_of}
use Rattle.raster.proofs.area_rows.write_rows.Given as goal

abbrev pub invariant-loop-row : goal.invariant-loop-row
invariant-loop-row l =
    record {
      size : length l.out ≡ pixel_len l.format * (l.area.w * l.area.h);
      rows : take (l.row * l.row_len) l.out ≡ row_bytes l.format (values_of l.area.w l.row (part_of l.area (value_at l.width l.colours)));
    }

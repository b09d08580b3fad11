use Rattle.std.proofs.Common.{◌≡◌, ◌*◌, take, length}
use Rattle.std.specs.Prelude.{map}
use Rattle.pixel_format.specs.PixelFormat.{tint}
use Rattle.raster.specs.Screen.{value_at, values_of, part_of}
use Rattle.raster.proofs.area_rows.tint_rows.Given as goal

abbrev pub invariant-loop-row : goal.invariant-loop-row
invariant-loop-row l =
    record {
      size : length l.values ≡ l.area.w * l.area.h;
      rows : take (l.row * l.across) l.values ≡ map (tint l.format) (values_of l.area.w l.row (part_of l.area (value_at l.width l.colours)));
    }

use Rattle.std.proofs.Common.{◌≡◌, ◌*◌, length}
use Rattle.raster.specs.Screen.{LooksLike, value_at, copy}
use Rattle.raster.proofs.painting.copy_from_top.Given as goal

abbrev pub invariant-loop-row : goal.invariant-loop-row
invariant-loop-row l =
    record {
      size : length l.values ≡ l.w * l.h;
      shows : LooksLike l.w l.h (value_at l.w l.values) (copy (record { x = l.area.x; y = l.area.y; w = l.area.w; h = l.row }) l.x l.y (value_at l.w l.fn.values));
    }

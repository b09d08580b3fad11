use Rattle.std.proofs.Common.{◌≡◌, ◌*◌, length}
use Rattle.raster.specs.Screen.{LooksLike, lay, part_of, value_at}
use Rattle.painter.proofs.copying.copy_area.Given as goal

abbrev pub invariant-loop-row : goal.invariant-loop-row
invariant-loop-row l =
    record {
      size : length l.into ≡ l.width * l.height;
      shows : LooksLike l.width l.height (value_at l.width l.into) (lay (record { x = l.area.x; y = l.area.y; w = l.area.w; h = l.row }) (part_of l.area (value_at l.width l.from)) (value_at l.width l.fn.into));
    }

use Rattle.std.proofs.Common.{◌≡◌, ◌*◌, length, take, map}
use Rattle.raster.specs.Screen.{LooksLike, value_at}
use Rattle.raster.specs.Update.{after_paints}
use Rattle.copy_log.specs.Notes.{paint_of}
use Rattle.painter.proofs.patch.copy_rects.Given as goal

abbrev pub invariant-loop-copy : goal.invariant-loop-copy
invariant-loop-copy l =
    record {
      rows : length l.screen ≡ l.width * l.height;
      shows : LooksLike l.width l.height (value_at l.width l.screen) (after_paints (value_at l.width l.fn.screen) (map paint_of (take l.copy-index l.copies)));
    }

use Rattle.std.proofs.Common.{◌≡◌, ◌*◌, length, drop}
use Rattle.raster.specs.Screen.{LooksLike, value_at}
use Rattle.raster.specs.Update.{after_paints}
use Rattle.painter.specs.Patch.{AreTiles, tile_paints}
use Rattle.painter.proofs.patch.put_tiles.Given as goal

abbrev pub invariant-loop-number : goal.invariant-loop-number
invariant-loop-number l =
    record {
      rows : length l.screen ≡ l.width * l.height;
      tiles : AreTiles l.width l.height (drop l.number-index l.numbers) l.left;
      shows : LooksLike l.width l.height (after_paints (value_at l.width l.screen) (tile_paints l.width l.height (drop l.number-index l.numbers) l.left)) (after_paints (value_at l.width l.fn.screen) (tile_paints l.width l.height l.numbers l.colours));
    }

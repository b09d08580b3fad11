use Rattle.std.proofs.Common.{◌≡◌, length}
use Rattle.raster.specs.Screen.{tile_count, tiles_across}
use Rattle.tiles.proofs.Marks.{IsFilled}
use Rattle.tiles.proofs.have.mark.Given as goal

abbrev pub invariant-loop-row : goal.invariant-loop-row
invariant-loop-row l =
    record {
      all : length l.sent ≡ tile_count l.width l.height;
      filled : IsFilled (tiles_across l.width) (tiles_across l.height) (record { x = l.tiles.x; y = l.tiles.y; w = l.tiles.w; h = l.row }) l.number l.fn.sent l.sent;
    }

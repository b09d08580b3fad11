use Rattle.std.proofs.Common.{◌≡◌, ◌+◌, ◌*◌, length}
use Rattle.std.specs.Prelude.{slice_index}
use Rattle.raster.specs.Screen.{tile_count, tiles_across}
use Rattle.raster.proofs.Rows.{IsFilled}
use Rattle.tiles.proofs.grid.stamp_tiles.Given as goal

abbrev pub invariant-loop-row : goal.invariant-loop-row
invariant-loop-row l =
    record {
      all : length l.stamps ≡ tile_count l.width l.height;
      filled : IsFilled (tiles_across l.width) (tiles_across l.height) (record { x = l.tiles.x; y = l.tiles.y; w = l.tiles.w; h = l.row }) l.n (λ i j. slice_index l.fn.stamps (j * tiles_across l.width + i)) (slice_index l.stamps);
    }

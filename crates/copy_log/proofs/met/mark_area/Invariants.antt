use Rattle.std.proofs.Common.{◌≡◌, ◌-◌, length}
use Rattle.raster.specs.Screen.{tile_count}
use Rattle.tiles.proofs.RunTiles.{walk_at}
use Rattle.copy_log.proofs.Marks.{IsMarkedTo}
use Rattle.copy_log.proofs.met.mark_area.Given as goal

abbrev pub invariant-loop-run : goal.invariant-loop-run
invariant-loop-run l =
    record {
      walk : l.walk ≡ walk_at l.width l.height l.area l.walk.next;
      count : length l.marks ≡ tile_count l.width l.height;
      marked : IsMarkedTo l.width l.height l.area l.walk.next l.fn.marks l.marks;
    }

abbrev pub decreases-loop-run : goal.decreases-loop-run
decreases-loop-run l = tile_count l.walk.width l.walk.height - l.walk.next

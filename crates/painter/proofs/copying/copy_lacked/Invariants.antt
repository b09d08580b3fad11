use Rattle.std.proofs.Common.{◌≡◌, ◌-◌, ◌*◌, length}
use Rattle.raster.specs.Screen.{tile_count}
use Rattle.tiles.specs.Grid.{is_lacked}
use Rattle.painter.proofs.NewerLaws.{HasTaken, on_screen}
use Rattle.painter.proofs.copying.copy_lacked.Given as goal

abbrev pub invariant-loop-run : goal.invariant-loop-run
invariant-loop-run l =
    record {
      walk : l.walk ≡ on_screen l.newer l.walk.next;
      count : length l.into ≡ l.newer.width * l.newer.height;
      taken : HasTaken l.newer (is_lacked l.grid l.newer l.number) l.from l.fn.into l.walk.next l.into;
    }

abbrev pub decreases-loop-run : goal.decreases-loop-run
decreases-loop-run l = tile_count l.walk.width l.walk.height - l.walk.next

use Rattle.std.proofs.Common.{◌≡◌, ◌+◌, ◌-◌, length}
use Rattle.raster.specs.Screen.{tile_count}
use Rattle.reflect_core.specs.Source.{marked}
use Rattle.tiles.specs.Walk.{runs_left}
use Rattle.update_encoder.proofs.answer.count_runs.Given as goal

abbrev pub invariant-loop-walk : goal.invariant-loop-walk
invariant-loop-walk l =
    record {
      width : l.walk.width ≡ l.cut.width;
      height : l.walk.height ≡ l.cut.height;
      counted : l.count + length (runs_left l.walk (marked l.cut)) ≡ length (runs_left l.fn.walk (marked l.cut));
    }

abbrev pub decreases-loop-walk : goal.decreases-loop-walk
decreases-loop-walk l = tile_count l.walk.width l.walk.height - l.walk.next

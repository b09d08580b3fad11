use Rattle.std.proofs.Common.{◌≡◌, ◌-◌}
use Rattle.raster.specs.Screen.{tile_count}
use Rattle.reflect_core.specs.Source.{marked}
use Rattle.tiles.specs.Walk.{runs_left}
use Rattle.zrle_answer.proofs.Planning.{PlansSoFar}
use Rattle.zrle_answer.proofs.plan.plan_rectangles.Given as goal

abbrev pub invariant-loop-run : goal.invariant-loop-run
invariant-loop-run l =
    record {
      width : l.walk.width ≡ l.cut.width;
      height : l.walk.height ≡ l.cut.height;
      so_far : PlansSoFar l.cut.width l.cut.height l.area (marked l.cut) (runs_left l.walk (marked l.cut)) l.plan.items;
    }

abbrev pub decreases-loop-run : goal.decreases-loop-run
decreases-loop-run l = tile_count l.walk.width l.walk.height - l.walk.next

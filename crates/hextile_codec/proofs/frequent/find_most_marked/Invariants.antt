use Rattle.std.proofs.Common.{◌+◌, get_or}
use Rattle.raster.specs.Screen.{value_at, part_of}
use Rattle.hextile_codec.specs.Places.{AreOthers}
use Rattle.hextile_codec.proofs.MostMarked.{IsBestOf}
use Rattle.hextile_codec.proofs.frequent.find_most_marked.Given as goal

abbrev pub invariant-loop-most : goal.invariant-loop-most
invariant-loop-most l =
    record {
      best : IsBestOf (part_of l.tile (value_at l.w l.values)) l.best.value l.most l.left;
      others : AreOthers (part_of l.tile (value_at l.w l.values)) l.best.value l.best.others;
    }

abbrev pub decreases-loop-most : goal.decreases-loop-most
decreases-loop-most l = get_or l.left 0 0 + get_or l.left 1 0 + get_or l.left 2 0 + get_or l.left 3 0

use Rattle.raster.specs.Screen.{value_at, part_of}
use Rattle.hextile_codec.proofs.MarkedRuns.{AreMarked}
use Rattle.hextile_codec.proofs.runs.add_marked.Given as goal

abbrev pub invariant-loop-begins : goal.invariant-loop-begins
invariant-loop-begins l = AreMarked l.fn.runs.items l.runs.items (part_of l.tile (value_at l.w l.values)) l.marks.background l.y l.begins

abbrev pub decreases-loop-begins : goal.decreases-loop-begins
decreases-loop-begins l = l.begins

use Rattle.std.proofs.Common.{◌*◌}
use Rattle.raster.specs.Screen.{value_at, part_of}
use Rattle.hextile_codec.proofs.Heads.{AreListed}
use Rattle.hextile_codec.proofs.listing.add_joined.Given as goal

abbrev pub invariant-loop-begins : goal.invariant-loop-begins
invariant-loop-begins l = AreListed (part_of l.tile (value_at l.w l.values)) l.marks.background (4 * l.k) l.fn.found.items l.found.items l.begins

abbrev pub decreases-loop-begins : goal.decreases-loop-begins
decreases-loop-begins l = l.begins

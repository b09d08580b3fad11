use Rattle.std.proofs.Common.{length}
use Rattle.host_decoder.proofs.RawRows.{HasPut}
use Rattle.host_decoder.proofs.raw_data.put_pixels.Given as goal

abbrev pub invariant-loop-left : goal.invariant-loop-left
invariant-loop-left l = HasPut l.fn.painter l.painter l.fn.done l.at l.pixels l.left

abbrev pub decreases-loop-left : goal.decreases-loop-left
decreases-loop-left l = length l.left

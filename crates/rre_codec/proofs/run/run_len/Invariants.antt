use Rattle.std.proofs.Common.{length, ◌-◌, ◌≤◌}
use Rattle.rre_codec.proofs.Front.{AreAll}
use Rattle.rre_codec.proofs.run.run_len.Given as goal

abbrev pub invariant-loop-len : goal.invariant-loop-len
invariant-loop-len l = (l.len ≤ length l.values) × AreAll l.values l.value l.len

abbrev pub decreases-loop-len : goal.decreases-loop-len
decreases-loop-len l = length l.values - l.len

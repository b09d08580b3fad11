use Rattle.std.proofs.Common.{◌≡◌, ◌++◌, replicate}
use Rattle.zrle_codec.proofs.runs.append_len.Given as goal

abbrev pub invariant-loop-k : goal.invariant-loop-k
invariant-loop-k l = l.out.items ≡ l.initial.out.items ++ replicate l.k 255

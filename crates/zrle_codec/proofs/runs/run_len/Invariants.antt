use Rattle.std.proofs.Common.{◌≡◌, ℕ, ◌-◌, ◌<◌, ◌≤◌, length}
use Rattle.std.specs.Prelude.{slice_index}
use Rattle.zrle_codec.proofs.runs.run_len.Given as goal

abbrev pub invariant-loop-end : goal.invariant-loop-end
invariant-loop-end l =
    record {
      some : l.from < l.end;
      inside : l.end ≤ length l.values;
      same : (k : ℕ) → l.from ≤ k → k < l.end → slice_index l.values k ≡ slice_index l.values l.from;
    }

abbrev pub decreases-loop-end : goal.decreases-loop-end
decreases-loop-end l = length l.values - l.end

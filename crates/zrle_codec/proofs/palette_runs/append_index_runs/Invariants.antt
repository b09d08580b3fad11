use Rattle.std.proofs.Common.{◌-◌, ◌≤◌, length, take}
use Rattle.zrle_codec.specs.Tiles.{index_run_bytes}
use Rattle.zrle_codec.specs.Appends.{AppendsRuns}
use Rattle.zrle_codec.proofs.palette_runs.append_index_runs.Given as goal

abbrev pub invariant-loop-from : goal.invariant-loop-from
invariant-loop-from l =
    record {
      inside : l.from ≤ length l.indices;
      put : AppendsRuns index_run_bytes l.initial.out.items l.out.items (take l.from l.indices);
    }

abbrev pub decreases-loop-from : goal.decreases-loop-from
decreases-loop-from l = length l.indices - l.from

use Rattle.std.proofs.Common.{◌-◌, ◌≤◌, length, take}
use Rattle.zrle_codec.specs.Tiles.{plain_run_bytes}
use Rattle.zrle_codec.specs.Appends.{AppendsRuns}
use Rattle.zrle_codec.proofs.runs.append_plain_runs.Given as goal

abbrev pub invariant-loop-from : goal.invariant-loop-from
invariant-loop-from l =
    record {
      inside : l.from ≤ length l.values;
      put : AppendsRuns (plain_run_bytes l.pixels.format) l.initial.out.items l.out.items (take l.from l.values);
    }

abbrev pub decreases-loop-from : goal.decreases-loop-from
decreases-loop-from l = length l.values - l.from

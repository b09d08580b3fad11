use Rattle.std.proofs.Common.{◌≡◌, ◌≤◌, take}
use Rattle.joined_runs.specs.Joined.{count_of}
use Rattle.hextile_codec.proofs.frequent.count_of.Given as goal

abbrev pub invariant-loop-other : goal.invariant-loop-other
invariant-loop-other l =
    record {
      count : l.count ≡ count_of (take l.other-index l.values) l.value;
      few : l.count ≤ l.other-index;
    }

use Rattle.std.proofs.Common.{◌≡◌, ℕ, ◌≤◌, take, length, get_or}
use Rattle.joined_runs.specs.Joined.{count_of}
use Rattle.hextile_codec.specs.Buckets.{bucket_of}
use Rattle.hextile_codec.proofs.frequent.count_buckets.Given as goal

abbrev pub invariant-loop-value : goal.invariant-loop-value
invariant-loop-value l =
    record {
      len : length l.counts ≡ 64;
      few : (b : ℕ) → get_or l.counts b 0 ≤ l.value-index;
      counts : (v : ℕ) → count_of (take l.value-index l.values) v ≤ get_or l.counts (bucket_of v) 0;
    }

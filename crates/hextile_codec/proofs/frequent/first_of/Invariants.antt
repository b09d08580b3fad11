use Rattle.std.proofs.Common.{◌≡◌, ℕ, ◌-◌, ◌<◌, ◌≤◌, get_or}
use Rattle.hextile_codec.proofs.frequent.first_of.Given as goal

abbrev pub invariant-loop-k : goal.invariant-loop-k
invariant-loop-k l =
    record {
      few : l.k ≤ 3;
      none : (j : ℕ) → j < l.k → get_or l.words j 0 ≡ 0;
    }

abbrev pub decreases-loop-k : goal.decreases-loop-k
decreases-loop-k l = 3 - l.k

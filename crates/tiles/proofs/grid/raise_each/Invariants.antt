use Rattle.std.proofs.Common.{◌≡◌, ℕ, ◌<◌, ◌≤◌, length}
use Rattle.std.specs.Prelude.{max, slice_index}
use Rattle.tiles.proofs.grid.raise_each.Given as goal

abbrev pub invariant-loop-row : goal.invariant-loop-row
invariant-loop-row l =
    record {
      all : length l.greatest ≡ length l.fn.greatest;
      done : (k : ℕ) → k < l.row → slice_index l.greatest k ≡ max (slice_index l.fn.greatest k) (slice_index l.newer k);
      left : (k : ℕ) → l.row ≤ k → slice_index l.greatest k ≡ slice_index l.fn.greatest k;
    }

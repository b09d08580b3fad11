use Rattle.std.proofs.Common.{◌≡◌, ℕ, ◌<◌, ◌≤◌, length}
use Rattle.std.specs.Prelude.{max, slice_index}
use Rattle.tiles.proofs.grid.raise_rows.Given as goal

abbrev pub invariant-loop-row : goal.invariant-loop-row
invariant-loop-row l =
    record {
      all : length l.greatest ≡ length l.fn.greatest;
      inside : (k : ℕ) → l.from ≤ k → k < l.row → slice_index l.greatest k ≡ max (slice_index l.fn.greatest k) l.n;
      outside : (k : ℕ) → (k < l.from) → slice_index l.greatest k ≡ slice_index l.fn.greatest k;
      behind : (k : ℕ) → l.row ≤ k → slice_index l.greatest k ≡ slice_index l.fn.greatest k;
    }

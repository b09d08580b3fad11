use Rattle.std.proofs.Common.{◌≡◌, ℕ, ◌<◌, ◌≤◌, length}
use Rattle.std.specs.Prelude.{nat_lt, not, ◌&&◌, if◌then◌else◌, slice_index}
use Rattle.tiles.proofs.grid.take_part.Given as goal

abbrev pub invariant-loop-t : goal.invariant-loop-t
invariant-loop-t l =
    record {
      all : length l.stamps ≡ length l.fn.stamps;
      inside : (k : ℕ) → l.from ≤ k → k < l.t → slice_index l.stamps k ≡ (if nat_lt l.number (slice_index l.newer k) && not (nat_lt l.number (slice_index l.fn.stamps k)) then slice_index l.newer k else slice_index l.fn.stamps k);
      before : (k : ℕ) → k < l.from → slice_index l.stamps k ≡ slice_index l.fn.stamps k;
      behind : (k : ℕ) → l.t ≤ k → slice_index l.stamps k ≡ slice_index l.fn.stamps k;
    }

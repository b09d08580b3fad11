use Rattle.std.proofs.Common.{◌≡◌, ◌≢◌, ℕ, ◌+◌, ◌%◌, ◌<◌, ◌≤◌, length}
use Rattle.std.specs.Prelude.{slice_index_or}
use Rattle.copy_log.specs.Notes.{nothing}
use Rattle.copy_log.proofs.log.take_notes.Given as goal

abbrev pub invariant-loop-k : goal.invariant-loop-k
invariant-loop-k l =
    record {
      all : length l.notes ≡ 4;
      none : l.to ≤ l.from → l.k ≡ l.from;
      taken : (k : ℕ) → l.from ≤ k → k < l.k → l.k ≤ k + 4 → slice_index_or l.notes (k % 4) nothing ≡ slice_index_or l.newer (k % 4) nothing;
      others : (j : ℕ) → j < 4 → ((k : ℕ) → l.from ≤ k → k < l.k → k % 4 ≢ j) → slice_index_or l.notes j nothing ≡ slice_index_or l.fn.notes j nothing;
      screen : (j : ℕ) → j < 4 → length (slice_index_or l.notes j nothing).touched ≡ length (slice_index_or l.fn.notes j nothing).touched;
    }

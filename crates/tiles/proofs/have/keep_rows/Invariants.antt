use Rattle.std.proofs.Common.{◌≡◌, ℕ, ◌<◌, ◌≤◌, Some, length}
use Rattle.std.specs.Prelude.{if◌then◌else◌}
use Rattle.tiles.specs.Have.{entry, lowered}
use Rattle.tiles.proofs.have.keep_rows.Given as goal

abbrev pub invariant-loop-row : goal.invariant-loop-row
invariant-loop-row l =
    record {
      len : length l.least ≡ length l.fn.least;
      inside : (k : ℕ) → l.from ≤ k → k < l.row → entry l.least k ≡ (if l.all then Some l.number else lowered (entry l.fn.least k) l.number);
      above : (k : ℕ) → k < l.from → entry l.least k ≡ entry l.fn.least k;
      below : (k : ℕ) → l.row ≤ k → entry l.least k ≡ entry l.fn.least k;
    }

use Rattle.std.proofs.Common.{◌≡◌, ℕ, ◌<◌, ◌≤◌, length}
use Rattle.std.specs.Prelude.{◌||◌}
use Rattle.copy_log.specs.Notes.{is_marked}
use Rattle.copy_log.proofs.passed.mark_both.Given as goal

abbrev pub invariant-loop-t : goal.invariant-loop-t
invariant-loop-t l =
    record {
      all : length l.marks ≡ length l.fn.marks;
      done : (k : ℕ) → k < l.t → is_marked l.marks k ≡ (is_marked l.fn.marks k || is_marked l.others k);
      left : (k : ℕ) → l.t ≤ k → is_marked l.marks k ≡ is_marked l.fn.marks k;
    }

use Rattle.std.proofs.Common.{◌≡◌, ℕ, ◌<◌, ◌≤◌, length}
use Rattle.std.specs.Prelude.{◌&&◌}
use Rattle.copy_log.specs.Notes.{is_marked}
use Rattle.reflect_core.proofs.fill.leave_lacked.Given as goal

abbrev pub invariant-loop-t : goal.invariant-loop-t
invariant-loop-t l =
    record {
      all : length l.due ≡ length l.fn.due;
      done : (k : ℕ) → k < l.t → is_marked l.due k ≡ (is_marked l.fn.due k && is_marked l.passed.lacks k);
      left : (k : ℕ) → l.t ≤ k → is_marked l.due k ≡ is_marked l.fn.due k;
    }

use Rattle.std.proofs.Common.{◌≡◌, ℕ, ◌<◌, length}
use Rattle.std.specs.Prelude.{not}
use Rattle.copy_log.specs.Notes.{is_marked}
use Rattle.copy_log.proofs.passed.mark_lacked.Given as goal

abbrev pub invariant-loop-t : goal.invariant-loop-t
invariant-loop-t g l =
    record {
      all : length l.marks ≡ length l.fn.marks;
      done : (k : ℕ) → k < l.t → is_marked l.marks k ≡ not (g.T.HeldTiles.held l.held k);
    }

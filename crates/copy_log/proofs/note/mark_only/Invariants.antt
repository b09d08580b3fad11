use Rattle.std.proofs.Common.{◌≡◌, ℕ, ◌<◌, length, take}
use Rattle.copy_log.specs.Notes.{is_among, is_marked}
use Rattle.copy_log.proofs.note.mark_only.Given as goal

abbrev pub invariant-loop-t : goal.invariant-loop-t
invariant-loop-t l =
    record {
      all : length l.marks ≡ length l.fn.marks;
      marked : (k : ℕ) → k < length l.fn.marks → is_marked l.marks k ≡ is_among (take l.t-index l.tiles) k;
    }

use Rattle.std.proofs.Common.{◌≡◌, ℕ, ◌<◌, length}
use Rattle.std.specs.Prelude.{slice_index_or}
use Rattle.copy_log.specs.Notes.{nothing}
use Rattle.copy_log.proofs.log.empty_notes.Given as goal

abbrev pub invariant-loop : goal.invariant-loop
invariant-loop l =
    record {
      len : length l.notes.items ≡ l.counter;
      each : (k : ℕ) → k < l.counter → length (slice_index_or l.notes.items k nothing).touched ≡ l.count;
    }

-- All that were looked at are later.
use Rattle.std.proofs.Common.{ℕ, ◌-◌, ◌<◌, ◌≤◌, length, get_or}
use Rattle.recording_index.specs.declared.moment.KeyMoment.{KeyMoment}
use Rattle.recording_index.proofs.index.Index.last_at.Given as goal

abbrev pub invariant-loop-i : goal.invariant-loop-i
invariant-loop-i l = (k : ℕ) → (d : KeyMoment) → length l.moments - l.i ≤ k → k < length l.moments → l.time < (get_or l.moments k d).time

-- What was read and what is left are all key moments, and the first fault is one of what is left.
use Rattle.std.proofs.Common.{◌≡◌, ◌-◌, ◌*◌, ◌/◌, ◌++◌, length, drop}
use Rattle.recording_index.specs.IndexBytes.{start}
use Rattle.recording_index.specs.IndexReading.{moments_of, fault_after}
use Rattle.recording_index.proofs.index.read_entries.Given as goal

abbrev pub invariant-loop-i : goal.invariant-loop-i
invariant-loop-i l =
    record {
      all : l.moments.items ++ moments_of (length l.entries / 12 - l.i) (drop (l.i * 12) l.entries) ≡ moments_of (length l.entries / 12) l.entries;
      fault : fault_after start (moments_of (length l.entries / 12) l.entries) ≡ fault_after l.before (moments_of (length l.entries / 12 - l.i) (drop (l.i * 12) l.entries));
    }

-- The line and the entries so far.
use Rattle.std.proofs.Common.{◌≡◌, ◌++◌, take}
use Rattle.recording_index.specs.IndexBytes.{entries_bytes, line}
use Rattle.rebuilt_index.proofs.spelled.index_file.Given as goal

abbrev pub invariant-loop-moment : goal.invariant-loop-moment
invariant-loop-moment l = l.file.items ≡ line ++ entries_bytes (take l.moment-index l.moments)

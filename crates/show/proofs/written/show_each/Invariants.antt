use Rattle.std.proofs.Common.{◌≤◌}
use Rattle.show.proofs.written.show_each.Given as goal

-- no more files were written than times have passed
abbrev pub invariant-loop-count : goal.invariant-loop-count
invariant-loop-count g l = l.written ≤ l.count

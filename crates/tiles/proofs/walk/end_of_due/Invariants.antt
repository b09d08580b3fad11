use Rattle.std.proofs.Common.{◌≡◌, ℕ, ◌<◌, ◌≤◌, true}
use Rattle.tiles.proofs.walk.end_of_due.Given as goal

abbrev pub invariant-loop-t : goal.invariant-loop-t
invariant-loop-t g l = (k : ℕ) → l.from ≤ k → k < l.t → g.T.DueTiles.due l.tiles k ≡ true

use Rattle.std.proofs.Common.{◌≡◌, ℕ, ◌<◌, ◌≤◌, false}
use Rattle.tiles.proofs.walk.first_due.Given as goal

abbrev pub invariant-loop-t : goal.invariant-loop-t
invariant-loop-t g l = (k : ℕ) → l.from ≤ k → k < l.t → g.T.DueTiles.due l.tiles k ≡ false

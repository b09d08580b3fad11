use Rattle.std.proofs.Common.{◌≡◌, ℕ, ◌*◌, ◌<◌, ◌≤◌, false}
use Rattle.tiles.specs.Walk.{is_in}
use Rattle.tiles.proofs.walk.find.Given as goal

abbrev pub invariant-loop-row : goal.invariant-loop-row
invariant-loop-row g l = (t : ℕ) → l.next ≤ t → t < l.row * l.across → is_in (g.T.DueTiles.due l.tiles) l.met l.across t ≡ false

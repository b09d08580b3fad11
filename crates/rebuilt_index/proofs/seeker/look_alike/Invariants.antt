-- The rows above this one show the same.
use Rattle.std.proofs.Common.{◌≡◌, ℕ, ◌<◌}
use Rattle.painter.specs.Painter.{worked}
use Rattle.rebuilt_index.proofs.seeker.look_alike.Given as goal

abbrev pub invariant-loop-y : goal.invariant-loop-y
invariant-loop-y l = (x k : ℕ) → x < l.one.painter.width → k < l.y → worked l.one.painter x k ≡ worked l.other.painter x k

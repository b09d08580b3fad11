use Rattle.std.proofs.Common.{◌≤◌, ◌-◌}
use Rattle.reflect_world.specs.World.{WritesSome}
use Rattle.reflect_world.proofs.place.Place.write.Given as goal

abbrev pub invariant-loop-left : goal.invariant-loop-left
invariant-loop-left l = record { within : l.left ≤ l.count; writes : WritesSome l.fn.self l.self (l.count - l.left) }

abbrev pub decreases-loop-left : goal.decreases-loop-left
decreases-loop-left l = l.left

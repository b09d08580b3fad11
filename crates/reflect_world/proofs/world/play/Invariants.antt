use Rattle.std.proofs.Common.{◌≡◌, List, false, take}
use Rattle.std.specs.Prelude.{map}
use Rattle.reflect_world.specs.Schedule.{Step}
use Rattle.reflect_world.specs.World.{step_of, unmarked, with_steps}
use Rattle.reflect_world.proofs.world.play.Given as goal

abbrev pub invariant-loop-played : goal.invariant-loop-played
invariant-loop-played l =
    ((played : List Step) × (map unmarked played ≡ take l.played (map step_of l.steps)) × (l.world ≡ with_steps l.fn.world played)) × (l.fn.world.is_refused ≡ false)

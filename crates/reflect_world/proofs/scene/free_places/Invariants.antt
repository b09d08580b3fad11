use Rattle.std.proofs.Common.{◌≡◌, ℕ, ◌-◌, ◌≤◌, None, length}
use Rattle.reflect_world.specs.World.{place_at}
use Rattle.reflect_world.proofs.scene.free_places.Given as goal

abbrev pub invariant-loop-places : goal.invariant-loop-places
invariant-loop-places l = (length l.places.items ≤ 65) × ((v : ℕ) → place_at l.places.items v ≡ None)

abbrev pub decreases-loop-places : goal.decreases-loop-places
decreases-loop-places l = 65 - length l.places.items

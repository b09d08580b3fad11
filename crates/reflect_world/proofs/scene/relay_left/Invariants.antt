use Rattle.std.proofs.Common.{◌≡◌, ◌≤◌, ◌-◌, ◌++◌, length, take}
use Rattle.reflect_world.specs.Relay.{relayed_of}
use Rattle.reflect_world.specs.World.{left_by}
use Rattle.reflect_world.proofs.scene.relay_left.Given as goal

abbrev pub invariant-loop-place : goal.invariant-loop-place
invariant-loop-place l =
    record {
      room : length (left_by l.place) ≤ l.relay.spare;
      queue : l.relay.queue ++ take (l.room - length l.relay.queue) (relayed_of l.viewer (left_by l.place)) ≡ l.fn.relay.queue ++ take (l.room - length l.fn.relay.queue) (relayed_of l.viewer (left_by l.fn.place));
      taken : l.relay.taken ≡ l.fn.relay.taken;
    }

abbrev pub decreases-loop-place : goal.decreases-loop-place
decreases-loop-place l = length (left_by l.place)

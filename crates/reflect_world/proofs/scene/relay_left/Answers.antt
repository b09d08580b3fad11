use Rattle.std.proofs.Common.{◌≡◌, ◌<◌, ◌∷◌, List, length, ap, arith, ◌∙◌}
use Rattle.roles.specs.Held.{input_in}
use Rattle.reflect_world.specs.Schedule.{Relayed}
use Rattle.reflect_world.specs.World.{left_by}
use Rattle.reflect_world.proofs.Leaving.{pushed_more}
use Rattle.reflect_world.proofs.scene.relay_left.Goals as goal

pub loop-place-preserved : goal.loop-place-preserved
loop-place-preserved c =
    let invariant = c.loop-place.invariant in
    let queue : List Relayed = c.loop-place.relay.queue in
    let is : left_by c.loop-place.place ≡ input_in c.in-Some.input ∷ left_by c.leave.new.self = c.in-Some.ensures.next in
    let room : length queue < c.args.room = omega (arith, c.loop-place-test.true, c.len.ensures) in
    record {
      room = omega (arith, invariant.room, c.push.ensures.spare, ap length is);
      queue = pushed_more c.args.viewer c.args.room queue c.push.new.self.queue (input_in c.in-Some.input) (left_by c.loop-place.place) (left_by c.leave.new.self) _ room is c.push.ensures.queue invariant.queue;
      taken = c.push.ensures.taken ∙ invariant.taken;
    }

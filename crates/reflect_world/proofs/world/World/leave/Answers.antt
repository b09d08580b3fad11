use Rattle.std.proofs.Common.{[]}
use Rattle.reflect_world.specs.declared.step.ScheduleEntry.TheVariants.{Left}
use Rattle.reflect_world.proofs.Keeping.{kept_joined}
use Rattle.reflect_world.proofs.world.World.leave.Goals as goal

pub invariant_of-self-in-Ok-leave : goal.invariant_of-self-in-Ok-leave
invariant_of-self-in-Ok-leave c =
    kept_joined (record { width = c.self.inside.width; height = c.self.inside.height; name = c.self.inside.name.items; room = c.self.inside.room; runs = c.self.inside.runs; steps = []; is_refused = c.self.inside.is_refused }) c.self.inside.schedule.items c.push.new.self.items (Left c.args.viewer) c.self.inside.scene c.leave.new.self c.self.invariant c.in-Ok.ensures.items
    (λ s w named formed untold r. c.in-Ok-leave.ensures.ok s w r) (λ s w named formed untold shown. c.in-Ok-leave.ensures.shows s w shown)

use Rattle.std.proofs.Common.{[], ℕ, List, subst}
use Rattle.reflect_world.specs.Schedule.{Join}
use Rattle.reflect_world.specs.World.{JoinsUnder, ShowsUnder}
use Rattle.reflect_world.specs.declared.step.ScheduleEntry.TheVariants.{Joined}
use Rattle.reflect_world.proofs.Keeping.{kept_joined}
use Rattle.reflect_world.proofs.world.World.join.Goals as goal

pub invariant_of-self-in-Ok-join : goal.invariant_of-self-in-Ok-join
invariant_of-self-in-Ok-join c =
    kept_joined (record { width = c.self.inside.width; height = c.self.inside.height; name = c.self.inside.name.items; room = c.self.inside.room; runs = c.self.inside.runs; steps = []; is_refused = c.self.inside.is_refused }) c.self.inside.schedule.items c.push.new.self.items (Joined c.args.viewer c.args.role c.args.greet) c.self.inside.scene c.join.new.self c.self.invariant c.in-Ok.ensures.items
    (subst (λ (name : List ℕ). JoinsUnder name c.self.inside.runs (Join c.args.viewer c.args.role c.args.greet) c.self.inside.scene c.join.new.self) c.as_slice.ensures.value c.in-Ok-join.ensures.ok)
    (subst (λ (name : List ℕ). ShowsUnder name c.self.inside.runs (Join c.args.viewer c.args.role c.args.greet) c.self.inside.scene c.join.new.self) c.as_slice.ensures.value c.in-Ok-join.ensures.shows)

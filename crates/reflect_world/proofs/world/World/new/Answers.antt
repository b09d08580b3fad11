use Rattle.std.proofs.Common.{[], List, false, refl, subst, sym}
use Rattle.std.specs.Prelude.{map}
use Rattle.reflect_world.specs.declared.step.ScheduleEntry.{ScheduleEntry}
use Rattle.reflect_world.specs.World.{IsKept, Kept, entry_of, setup_of, world_of}
use Rattle.reflect_world.proofs.Reaching.{shows_reached}
use Rattle.reflect_world.proofs.world.World.new.Goals as goal

pub invariant_of-result : goal.invariant_of-result
invariant_of-result c =
    subst (λ (entries : List ScheduleEntry). IsKept (record { width = c.args.width; height = c.args.height; name = c.in-Ok.name.items; room = c.args.room; runs = c.args.runs; steps = map entry_of entries; is_refused = false }) c.in_ok-new.field-0) (sym c.new.ensures.items)
    (let k : Kept = record { width = c.args.width; height = c.args.height; name = c.in-Ok.name.items; room = c.args.room; runs = c.args.runs; steps = []; is_refused = false } in
    let reached = c.in_ok-new.ensures.ok (setup_of k) refl refl refl (record { zrle = refl; copies = refl }) in
    record { named = rw c.in-Ok.ensures.items c.requires.name; shows = shows_reached (setup_of k) c.in_ok-new.field-0 (world_of k) reached; reached = λ no. reached })

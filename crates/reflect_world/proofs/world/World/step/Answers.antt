use Rattle.std.proofs.Common.{◌∙◌, ◌++◌, ◌∷◌, [], List, ap, subst, sym, true≢false}
use Rattle.reflect_world.specs.Schedule.{Step}
use Rattle.reflect_world.specs.World.{Kept, TakesStep, entry_of, step_of, with_steps}
use Rattle.reflect_world.specs.declared.step.ScheduleEntry.{ScheduleEntry}
use Rattle.reflect_world.specs.declared.step.ScheduleEntry.TheVariants.{Played}
use Rattle.reflect_world.proofs.Keeping.{kept_pushed, kept_stays, out_of_numbers, steps_pushed, unmarked_with}
use Rattle.reflect_world.proofs.world.World.step.Goals as goal
use Rattle.reflect_world.proofs.world.World.step.Goals.{in-Memory, in_default-matches}

pub invariant_of-self-in-Ok-take : goal.invariant_of-self-in-Ok-take
invariant_of-self-in-Ok-take c =
    let entry : ScheduleEntry = Played c.in-Ok.copy c.take.new.lost in
    kept_pushed (record { width = c.self.inside.width; height = c.self.inside.height; name = c.self.inside.name.items; room = c.self.inside.room; runs = c.self.inside.runs; steps = []; is_refused = c.self.inside.is_refused }) c.self.inside.schedule.items c.push.new.self.items entry c.self.inside.scene c.take.new.self c.self.invariant (ap (λ (k : Kept). k.is_refused) c.self.view_is ∙ c.requires)
    (c.in-Ok-push.ensures.items ∙ ap (λ es. es ++ entry ∷ []) c.reserve.ensures.items)
    (λ s w named formed untold. subst (λ (e : Step). TakesStep e c.self.inside.scene c.take.new.self) (sym (c.in-Ok.ensures.marked c.take.new.lost.items)) c.in-Ok-take.ensures.ok s w)

pub invariant_of-self-after-matches : goal.invariant_of-self-after-matches
invariant_of-self-after-matches c =
    kept_stays (record { width = c.self.inside.width; height = c.self.inside.height; name = c.self.inside.name.items; room = c.self.inside.room; runs = c.self.inside.runs; steps = []; is_refused = c.self.inside.is_refused }) c.self.inside.schedule.items c.reserve.new.self.items c.match-matches.self c.in-Err.fault c.self.inside.scene c.take.new.self c.self.invariant (ap (λ (k : Kept). k.is_refused) c.self.view_is ∙ c.requires) c.reserve.ensures.items c.in-Err.ensures.err.1
    (λ no.
    elim c.match-matches.branch [
      | in-Memory w ↦ absurd (true≢false (sym w.self-is ∙ no))
      | in_default-matches w ↦ out_of_numbers (step_of c.args.step.now) c.self.inside.scene c.in-Err.fault c.in-Err.ensures.err.0 w.in_default-matches.not-Memory
    ])

pub invariant_of-self-after-matches-2 : goal.invariant_of-self-after-matches-2
invariant_of-self-after-matches-2 c =
    kept_stays (record { width = c.self.inside.width; height = c.self.inside.height; name = c.self.inside.name.items; room = c.self.inside.room; runs = c.self.inside.runs; steps = []; is_refused = c.self.inside.is_refused }) c.self.inside.schedule.items c.reserve.new.self.items c.match-matches.self c.in-Err.fault c.self.inside.scene c.take.new.self c.self.invariant (ap (λ (k : Kept). k.is_refused) c.self.view_is ∙ c.requires) c.reserve.ensures.items c.in-Err.ensures.err.1
    (λ no.
    elim c.match-matches.branch [
      | in-Memory w ↦ absurd (true≢false (sym w.self-is ∙ no))
      | in_default-matches w ↦ out_of_numbers (step_of c.args.step.now) c.self.inside.scene c.in-Err.fault c.in-Err.ensures.err.0 w.in_default-matches.not-Memory
    ])

pub invariant_of-self-after-matches-3 : goal.invariant_of-self-after-matches-3
invariant_of-self-after-matches-3 c =
    kept_stays (record { width = c.self.inside.width; height = c.self.inside.height; name = c.self.inside.name.items; room = c.self.inside.room; runs = c.self.inside.runs; steps = []; is_refused = c.self.inside.is_refused }) c.self.inside.schedule.items c.reserve.new.self.items c.match-matches.self c.in-Err.fault c.self.inside.scene c.take.new.self c.self.invariant (ap (λ (k : Kept). k.is_refused) c.self.view_is ∙ c.requires) c.reserve.ensures.items c.in-Err.ensures.err.1
    (λ no.
    elim c.match-matches.branch [
      | in-Memory w ↦ absurd (true≢false (sym w.self-is ∙ no))
      | in_default-matches w ↦ out_of_numbers (step_of c.args.step.now) c.self.inside.scene c.in-Err.fault c.in-Err.ensures.err.0 w.in_default-matches.not-Memory
    ])

pub returns-in-Ok-push-clause-ok : goal.returns-in-Ok-push-clause-ok
returns-in-Ok-push-clause-ok c =
    let entry : ScheduleEntry = Played c.in-Ok.copy c.take.new.lost in
    let e : Step = entry_of entry in
    let steps = steps_pushed c.self.inside.schedule.items c.push.new.self.items entry (c.in-Ok-push.ensures.items ∙ ap (λ es. es ++ entry ∷ []) c.reserve.ensures.items) in (
      e,
      unmarked_with c.in-Ok.copy c.take.new.lost.items ∙ c.in-Ok.ensures.same,
      ap (λ (es : List Step). record { width = c.self.inside.width; height = c.self.inside.height; name = c.self.inside.name.items; room = c.self.inside.room; runs = c.self.inside.runs; steps = es; is_refused = c.self.inside.is_refused }) steps
          ∙ ap (λ (k : Kept). with_steps k (e ∷ [])) c.self.view_is,
    )

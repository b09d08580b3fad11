use Rattle.std.proofs.Common.{refl, subst, sym}
use Rattle.std.specs.Prelude.{Ok, None, Some, Option}
use Rattle.std.proofs.lemmas.Result.{on_ok_weaker}
use Rattle.painter.specs.Patch.{SizedUpdate}
use Rattle.reflect_world.specs.Host.{ReadsOn}
use Rattle.reflect_world.specs.World.{Reached, Standing}
use Rattle.reflect_world.proofs.Reaching.{next_faulty, next_reaches, next_waits, refused_stays}
use Rattle.reflect_world.proofs.scene.Scene.next_host.Goals as goal
use Rattle.reflect_world.proofs.scene.Scene.next_host.Goals.{in-Memory, in_default}

pub returns-in-Ok-Some-clause-ok : goal.returns-in-Ok-Some-clause-ok
returns-in-Ok-Some-clause-ok c =
    λ s w r.
    let old : Standing = record { screen = c.self.inside.screen; host = c.self.inside.host; host_fault = c.self.inside.host_fault; places = c.self.inside.places.items; room = c.self.inside.room; relay = c.self.inside.relay } in
    let reads : ReadsOn old.host c.next_patch.new.self (Ok (Some c.in-Ok-Some.patch)) =
    subst (λ (found : Option SizedUpdate). ReadsOn old.host c.next_patch.new.self (Ok found)) c.in-Ok-Some.field-0-is c.in-Ok-Some.ensures.ok in
    next_waits old c.next_patch.new.self c.keep.new.self c.in-Ok-Some.patch c.in-Ok-Some.ensures.same c.in-Ok-Some.ensures.none reads c.keep.ensures.same c.keep.ensures.stands s w
    (subst (λ (standing : Standing). Reached s standing w) (sym c.self.view_is) r)

pub returns-in-Ok-None-clause-ok : goal.returns-in-Ok-None-clause-ok
returns-in-Ok-None-clause-ok c =
    let old : Standing = record { screen = c.self.inside.screen; host = c.self.inside.host; host_fault = c.self.inside.host_fault; places = c.self.inside.places.items; room = c.self.inside.room; relay = c.self.inside.relay } in
    let reads : ReadsOn old.host c.next_patch.new.self (Ok None) =
    subst (λ (found : Option SizedUpdate). ReadsOn old.host c.next_patch.new.self (Ok found)) c.in-Ok-None.field-0-is c.in-Ok-None.ensures.ok in
    on_ok_weaker c.next_host.result
    (λ begins s w r.
    next_reaches old c.next_patch.new.self c.next_host.new.self c.in-Ok-None.ensures.same reads c.next_host.ensures.same begins s w (subst (λ (standing : Standing). Reached s standing w) (sym c.self.view_is) r))
    c.next_host.ensures.ok

pub returns-after-fault-clause-ok : goal.returns-after-fault-clause-ok
returns-after-fault-clause-ok c = elim c.match-fault.branch [
  | in-Memory k ↦ rw k.result-is tt
  | in_default k ↦ (
      let old : Standing = record { screen = c.self.inside.screen; host = c.self.inside.host; host_fault = c.self.inside.host_fault; places = c.self.inside.places.items; room = c.self.inside.room; relay = c.self.inside.relay } in
      rw k.result-is
      (λ s w r.
      next_faulty old c.next_patch.new.self c.in-Err.fault c.in-Err.ensures.same k.in_default.not-Memory c.in-Err.ensures.err s w (subst (λ (standing : Standing). Reached s standing w) (sym c.self.view_is) r)))
]

pub returns-after-fault-clause-err : goal.returns-after-fault-clause-err
returns-after-fault-clause-err c = elim c.match-fault.branch [
  | in-Memory k ↦ (
      let old : Standing = record { screen = c.self.inside.screen; host = c.self.inside.host; host_fault = c.self.inside.host_fault; places = c.self.inside.places.items; room = c.self.inside.room; relay = c.self.inside.relay } in
      rw k.result-is (
        refl,
        λ s w r.
            refused_stays old c.next_patch.new.self c.in-Err.fault c.in-Err.ensures.same c.in-Err.ensures.err s w (subst (λ (standing : Standing). Reached s standing w) (sym c.self.view_is) r),
      ))
  | in_default k ↦ rw k.result-is tt
]

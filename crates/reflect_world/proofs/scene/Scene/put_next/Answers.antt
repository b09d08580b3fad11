use Rattle.std.proofs.Common.{refl, subst, sym, inl}
use Rattle.std.specs.Prelude.{OnOk, Ok, None, Some, Option}
use Rattle.std.proofs.lemmas.Result.{on_ok_weaker}
use Rattle.painter.specs.Patch.{SizedUpdate}
use Rattle.reflect_world.specs.Host.{ReadsOn}
use Rattle.reflect_world.specs.Schedule.{Put}
use Rattle.reflect_world.specs.World.{Reached, Standing, TakesStep}
use Rattle.reflect_world.proofs.Reaching.{err_reaches, none_reaches, put_reaches, refused_stays, with_host}
use Rattle.reflect_world.proofs.scene.Scene.put_next.Goals as goal

pub returns-in-Ok-Some-clause-ok : goal.returns-in-Ok-Some-clause-ok
returns-in-Ok-Some-clause-ok c =
    let old : Standing = record { screen = c.self.inside.screen; host = c.self.inside.host; host_fault = c.self.inside.host_fault; places = c.self.inside.places.items; room = c.self.inside.room; relay = c.self.inside.relay } in
    let reads : ReadsOn old.host c.next_patch.new.self (Ok (Some c.in-Ok-Some.patch)) =
    subst (λ (found : Option SizedUpdate). ReadsOn old.host c.next_patch.new.self (Ok found)) c.in-Ok-Some.field-0-is c.in-Ok-Some.ensures.ok in
    subst (λ (standing : Standing). OnOk c.put.result (TakesStep Put standing c.put.new.self)) c.self.view_is
    (on_ok_weaker c.put.result
    (λ put. put_reaches old (with_host old c.next_patch.new.self) c.put.new.self c.in-Ok-Some.patch refl c.in-Ok-Some.ensures.same c.in-Ok-Some.ensures.none reads put)
    c.put.ensures.ok)

pub returns-in-Ok-None-clause-ok : goal.returns-in-Ok-None-clause-ok
returns-in-Ok-None-clause-ok c =
    λ s w r.
    let old : Standing = record { screen = c.self.inside.screen; host = c.self.inside.host; host_fault = c.self.inside.host_fault; places = c.self.inside.places.items; room = c.self.inside.room; relay = c.self.inside.relay } in
    let reads : ReadsOn old.host c.next_patch.new.self (Ok None) =
    subst (λ (found : Option SizedUpdate). ReadsOn old.host c.next_patch.new.self (Ok found)) c.in-Ok-None.field-0-is c.in-Ok-None.ensures.ok in
    none_reaches old c.next_patch.new.self c.in-Ok-None.ensures.same reads s w (subst (λ (standing : Standing). Reached s standing w) (sym c.self.view_is) r)

pub returns-in_default : goal.returns-in_default
returns-in_default c =
    record {
      ok =
          λ s w r.
          let old : Standing = record { screen = c.self.inside.screen; host = c.self.inside.host; host_fault = c.self.inside.host_fault; places = c.self.inside.places.items; room = c.self.inside.room; relay = c.self.inside.relay } in
          err_reaches old c.next_patch.new.self c.in-Err.fault c.in-Err.ensures.same c.in_default.not-Memory c.in-Err.ensures.err s w
          (subst (λ (standing : Standing). Reached s standing w) (sym c.self.view_is) r);
      err = tt;
    }

pub returns-in-Memory-clause-err : goal.returns-in-Memory-clause-err
returns-in-Memory-clause-err c = (
  inl refl,
  λ s w r.
      let old : Standing = record { screen = c.self.inside.screen; host = c.self.inside.host; host_fault = c.self.inside.host_fault; places = c.self.inside.places.items; room = c.self.inside.room; relay = c.self.inside.relay } in
      refused_stays old c.next_patch.new.self c.in-Err.fault c.in-Err.ensures.same c.in-Err.ensures.err s w
      (subst (λ (standing : Standing). Reached s standing w) (sym c.self.view_is) r),
)

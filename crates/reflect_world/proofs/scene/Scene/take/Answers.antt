use Rattle.std.proofs.Common.{ap, inl, subst, sym, ◌∙◌}
use Rattle.std.specs.Prelude.{OnOk}
use Rattle.std.proofs.lemmas.Result.{IfErr-weaker, on_ok_weaker}
use Rattle.reflect_world.specs.Schedule.{Bytes, HostBytes, Step, happens}
use Rattle.reflect_world.specs.World.{IsRefusal, Reached, Standing, TakesStep, step_of, step_with}
use Rattle.reflect_world.proofs.Reaching.{leaves_stays, takes_reaches}
use Rattle.reflect_world.proofs.scene.Scene.take.Goals as goal

pub returns-in-HostBytes-clause-ok : goal.returns-in-HostBytes-clause-ok
returns-in-HostBytes-clause-ok c =
    subst (λ (e : Step). OnOk c.host_bytes.result (TakesStep e c.args.self.now c.host_bytes.new.self)) (sym (ap (λ step. step_with step c.args.lost.now.items) c.in-HostBytes.is ∙ ap HostBytes (sym c.as_slice.ensures.value))) c.host_bytes.ensures.ok

pub returns-in-Raise-clause-ok : goal.returns-in-Raise-clause-ok
returns-in-Raise-clause-ok c = λ s w r. subst (λ (e : Step). Reached s c.raise.new.self (happens s w e)) (sym (ap (λ step. step_with step c.args.lost.now.items) c.in-Raise.is)) (c.raise.ensures s w r)

pub returns-in-Put-clause-err : goal.returns-in-Put-clause-err
returns-in-Put-clause-err c =
    IfErr-weaker c.put_next.result _ _
    (λ fault refused. (
      subst (λ (e : Step). IsRefusal e c.args.self.now fault) (sym (ap step_of c.in-Put.is)) refused.0,
      leaves_stays c.args.self.now c.put_next.new.self fault refused.1,
    ))
    c.put_next.ensures.err

pub returns-in-Take-clause-ok : goal.returns-in-Take-clause-ok
returns-in-Take-clause-ok c =
    let old : Standing = record { screen = c.self.inside.screen; host = c.self.inside.host; host_fault = c.self.inside.host_fault; places = c.self.inside.places.items; room = c.self.inside.room; relay = c.self.inside.relay } in
    let new : Standing = record old { relay = c.take.new.self } in
    on_ok_weaker c.take.result
    (λ took. subst (λ (e : Step). TakesStep e c.args.self.now new) (sym (ap (λ step. step_with step c.args.lost.now.items) c.in-Take.is))
    (λ s w r. takes_reaches old c.take.new.self took s w (subst (λ (standing : Standing). Reached s standing w) (sym c.self.view_is) r)))
    c.take.ensures.ok

pub returns-in-Put-clause-ok : goal.returns-in-Put-clause-ok
returns-in-Put-clause-ok c =
    subst (λ (e : Step). OnOk c.put_next.result (TakesStep e c.args.self.now c.put_next.new.self)) (sym (ap (λ step. step_with step c.args.lost.now.items) c.in-Put.is)) c.put_next.ensures.ok

pub returns-in-Bytes-clause-ok : goal.returns-in-Bytes-clause-ok
returns-in-Bytes-clause-ok c =
    subst (λ (e : Step). OnOk c.feed.result (TakesStep e c.args.self.now c.feed.new.self))
    (sym (ap (λ step. step_with step c.feed.new.lost.items) c.in-Bytes.is ∙ ap (λ bytes. Bytes c.in-Bytes.viewer bytes c.feed.new.lost.items) (sym c.as_slice-in-Bytes.ensures.value)))
    c.feed.ensures.ok

pub returns-in-Next-clause-ok : goal.returns-in-Next-clause-ok
returns-in-Next-clause-ok c =
    subst (λ (e : Step). OnOk c.next_host.result (TakesStep e c.args.self.now c.next_host.new.self)) (sym (ap (λ step. step_with step c.args.lost.now.items) c.in-Next.is)) c.next_host.ensures.ok

pub returns-in-Next-clause-err : goal.returns-in-Next-clause-err
returns-in-Next-clause-err c =
    IfErr-weaker c.next_host.result _ _ (λ fault refused. (inl refused.0, leaves_stays c.args.self.now c.next_host.new.self fault refused.1)) c.next_host.ensures.err

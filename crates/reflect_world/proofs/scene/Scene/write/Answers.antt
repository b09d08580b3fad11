use Rattle.std.proofs.Common.{subst, sym}
use Rattle.std.proofs.lemmas.Result.{IfErr-weaker, on_ok_weaker}
use Rattle.reflect_world.specs.World.{Reached, Standing}
use Rattle.reflect_world.proofs.Reaching.{broken_off, written_reaches}
use Rattle.reflect_world.proofs.scene.Scene.write.Goals as goal

pub returns-in-Some-clause-ok : goal.returns-in-Some-clause-ok
returns-in-Some-clause-ok c =
    on_ok_weaker c.write.result
    (λ is s w r.
    written_reaches (record { screen = c.self.inside.screen; host = c.self.inside.host; host_fault = c.self.inside.host_fault; places = c.self.inside.places.items; room = c.self.inside.room; relay = c.self.inside.relay }) c.args.viewer c.args.count c.index_mut-slot.result.now c.in-Some.place c.write.new.self
    c.if-viewer-lt-PLACES.true c.index_mut-slot.ensures.value c.in-Some.is is s w
    (subst (λ (standing : Standing). Reached s standing w) (sym c.self.view_is) r))
    c.write.ensures.ok

pub returns-in-Some-clause-err : goal.returns-in-Some-clause-err
returns-in-Some-clause-err c =
    IfErr-weaker c.write.result _ _
    (λ fault broken. (
      broken.0,
      λ s w r.
          broken_off (record { screen = c.self.inside.screen; host = c.self.inside.host; host_fault = c.self.inside.host_fault; places = c.self.inside.places.items; room = c.self.inside.room; relay = c.self.inside.relay }) c.args.viewer c.index_mut-slot.result.now c.in-Some.place c.write.new.self
          c.if-viewer-lt-PLACES.true c.index_mut-slot.ensures.value c.in-Some.is broken.1 s w (subst (λ (standing : Standing). Reached s standing w) (sym c.self.view_is) r),
    ))
    c.write.ensures.err

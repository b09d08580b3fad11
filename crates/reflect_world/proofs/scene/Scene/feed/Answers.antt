use Rattle.std.proofs.Common.{subst, sym}
use Rattle.std.proofs.lemmas.Result.{IfErr-weaker, on_ok_weaker}
use Rattle.reflect_world.specs.World.{Reached, Standing}
use Rattle.reflect_world.proofs.Reaching.{fed_reaches, same_seen}
use Rattle.reflect_world.proofs.scene.Scene.feed.Goals as goal

pub returns-in-Some : goal.returns-in-Some
returns-in-Some c =
    let standing : Standing = record { screen = c.self.inside.screen; host = c.self.inside.host; host_fault = c.self.inside.host_fault; places = c.self.inside.places.items; room = c.self.inside.room; relay = c.self.inside.relay } in
    record {
      ok = on_ok_weaker c.feed.result
          (λ is s w r.
          fed_reaches standing c.args.viewer c.args.bytes.now c.feed.new.lost.items c.index_mut-slot.result.now c.in-Some.place c.feed.new.self c.if-viewer-lt-PLACES.true c.index_mut-slot.ensures.value c.in-Some.is is s w
          (subst (λ (standing : Standing). Reached s standing w) (sym c.self.view_is) r))
          c.feed.ensures.ok;
      err = IfErr-weaker c.feed.result _ _
          (λ fault refused. (
            refused.0,
            λ s w r. same_seen standing c.args.viewer c.index_mut-slot.result.now c.in-Some.place c.feed.new.self c.if-viewer-lt-PLACES.true c.index_mut-slot.ensures.value c.in-Some.is refused.1 s w
                (subst (λ (standing : Standing). Reached s standing w) (sym c.self.view_is) r),
          ))
          c.feed.ensures.err;
    }

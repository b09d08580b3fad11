use Rattle.std.proofs.Common.{subst, sym}
use Rattle.std.proofs.lemmas.Result.{on_ok_weaker}
use Rattle.reflect_world.specs.World.{Reached, Standing}
use Rattle.reflect_world.proofs.Reaching.{bytes_reaches}
use Rattle.reflect_world.proofs.scene.Scene.host_bytes.Goals as goal

pub returns-clause-ok : goal.returns-clause-ok
returns-clause-ok c =
    let old : Standing = record { screen = c.self.inside.screen; host = c.self.inside.host; host_fault = c.self.inside.host_fault; places = c.self.inside.places.items; room = c.self.inside.room; relay = c.self.inside.relay } in
    on_ok_weaker c.add.result
    (λ grows s w r. bytes_reaches old c.add.new.self c.args.bytes.now c.add.ensures.same grows s w (subst (λ (standing : Standing). Reached s standing w) (sym c.self.view_is) r))
    c.add.ensures.ok

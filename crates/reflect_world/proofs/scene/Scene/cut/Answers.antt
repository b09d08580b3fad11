use Rattle.std.proofs.Common.{subst, sym}
use Rattle.reflect_world.specs.Schedule.{Cut, happens}
use Rattle.reflect_world.specs.World.{Reached, Standing}
use Rattle.reflect_world.proofs.Reaching.{cut_reaches, ready_there, with_place, with_screen}
use Rattle.reflect_world.proofs.scene.Scene.cut.Goals as goal

pub cut-requires-clause-ready : goal.cut-requires-clause-ready
cut-requires-clause-ready c =
    let reached = c.requires in
    (ready_there reached.0 (record { screen = c.self.inside.screen; host = c.self.inside.host; host_fault = c.self.inside.host_fault; places = c.self.inside.places.items; room = c.self.inside.room; relay = c.self.inside.relay }) reached.1 c.args.viewer c.index_mut-slot.result.now c.in-Some.place
    (subst (λ (standing : Standing). Reached reached.0 standing reached.1) (sym c.self.view_is) reached.2) c.if-viewer-lt-PLACES.true c.index_mut-slot.ensures.value c.in-Some.is).0

pub returns-in-Some : goal.returns-in-Some
returns-in-Some c =
    λ s w r.
    subst (λ screen. Reached s (with_screen (with_place (record { screen = c.self.inside.screen; host = c.self.inside.host; host_fault = c.self.inside.host_fault; places = c.self.inside.places.items; room = c.self.inside.room; relay = c.self.inside.relay }) c.args.viewer c.cut.new.self) screen) (happens s w (Cut c.args.viewer))) (sym c.cut.ensures.screen)
    (cut_reaches (record { screen = c.self.inside.screen; host = c.self.inside.host; host_fault = c.self.inside.host_fault; places = c.self.inside.places.items; room = c.self.inside.room; relay = c.self.inside.relay }) c.args.viewer c.index_mut-slot.result.now c.in-Some.place c.cut.new.self
    c.if-viewer-lt-PLACES.true c.index_mut-slot.ensures.value c.in-Some.is c.cut.ensures.goes_on s w
    (subst (λ (standing : Standing). Reached s standing w) (sym c.self.view_is) r))

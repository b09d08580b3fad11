use Rattle.std.proofs.Common.{◌<◌, ◌-◌, ◌++◌, ◌∙◌, arith, ap, length, subst, sym, take}
use Rattle.reflect_world.specs.Relay.{RelaySide, relayed_of}
use Rattle.reflect_world.specs.World.{Reached, Shows, Standing, left_by}
use Rattle.reflect_world.proofs.Leaving.{without_reaches, without_shows}
use Rattle.reflect_world.proofs.scene.Scene.leave.Goals as goal

pub returns-clause-ok : goal.returns-clause-ok
returns-clause-ok c = λ s w r.
    let standing : Standing = record { screen = c.self.inside.screen; host = c.self.inside.host; host_fault = c.self.inside.host_fault; places = c.self.inside.places.items; room = c.self.inside.room; relay = c.self.inside.relay } in
    let within : c.args.viewer < 65 = omega (arith, c.if-viewer-ge-PLACES.false) in
    let reserved = c.reserve.ensures.others in
    without_reaches standing c.args.viewer c.index_mut-slot.result.now c.in-Some.place c.relay_left.new.place c.relay_left.new.relay within c.index_mut-slot.ensures.value c.in-Some.is
    (c.relay_left.ensures.queue ∙ ap (λ (t : RelaySide). t.queue ++ take (c.self.inside.room - length t.queue) (relayed_of c.args.viewer (left_by c.in-Some.place))) reserved)
    (c.relay_left.ensures.taken ∙ ap (λ (t : RelaySide). t.taken) reserved) s w (subst (λ (t : Standing). Reached s t w) (sym c.self.view_is) r)

pub returns-clause-shows : goal.returns-clause-shows
returns-clause-shows c = λ s w shown.
    let standing : Standing = record { screen = c.self.inside.screen; host = c.self.inside.host; host_fault = c.self.inside.host_fault; places = c.self.inside.places.items; room = c.self.inside.room; relay = c.self.inside.relay } in
    let within : c.args.viewer < 65 = omega (arith, c.if-viewer-ge-PLACES.false) in
    without_shows standing c.args.viewer c.index_mut-slot.result.now c.in-Some.place c.relay_left.new.place c.relay_left.new.relay within c.index_mut-slot.ensures.value c.in-Some.is
    (c.relay_left.ensures.taken ∙ ap (λ (t : RelaySide). t.taken) c.reserve.ensures.others) s w (subst (λ (t : Standing). Shows s t w) (sym c.self.view_is) shown)

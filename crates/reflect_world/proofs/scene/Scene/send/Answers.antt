use Rattle.std.proofs.Common.{◌≡◌, ◌<◌, ◌∙◌, true, ◌++◌, ◌∷◌, [], ap, subst, sym, arith}
use Rattle.std.specs.Prelude.{nat_lt, length, option_map}
use Rattle.roles.specs.Held.{input_in}
use Rattle.reflect_world.specs.Relay.{RelaySide}
use Rattle.reflect_world.specs.Schedule.{Send, happens}
use Rattle.reflect_world.specs.World.{Reached, Standing}
use Rattle.reflect_world.proofs.Reaching.{held_back, none_reaches_host, sent_reaches}
use Rattle.reflect_world.proofs.scene.Scene.send.Goals as goal
use Rattle.reflect_world.proofs.scene.Scene.send.Goals.{in-Some-send, in_default-send}

pub returns-then-not-has_room-clause-ok : goal.returns-then-not-has_room-clause-ok
returns-then-not-has_room-clause-ok c = λ s w r.
    let standing : Standing = record { screen = c.self.inside.screen; host = c.self.inside.host; host_fault = c.self.inside.host_fault; places = c.self.inside.places.items; room = c.self.inside.room; relay = c.self.inside.relay } in
    held_back standing c.args.viewer c.index_mut-slot.result.now c.in-Some.place c.forget_look.new.self (omega (arith, c.if-viewer-ge-PLACES.false)) c.index_mut-slot.ensures.value c.in-Some.is
    (ap (λ (t : Standing). nat_lt (length t.relay.queue) t.room) c.self.view_is ∙ sym c.if-not-has_room.ensures) c.forget_look.ensures s w (subst (λ (t : Standing). Reached s t w) (sym c.self.view_is) r)

pub returns-clause-ok : goal.returns-clause-ok
returns-clause-ok c = λ s w r.
    let standing : Standing = record { screen = c.self.inside.screen; host = c.self.inside.host; host_fault = c.self.inside.host_fault; places = c.self.inside.places.items; room = c.self.inside.room; relay = c.self.inside.relay } in
    let P : Standing → Type 0 = λ t. Reached s t (happens s w (Send c.args.viewer)) in
    let stood : Reached s standing w = subst (λ (t : Standing). Reached s t w) (sym c.self.view_is) r in
    let within : c.args.viewer < 65 = omega (arith, c.if-viewer-ge-PLACES.false) in
    let reserved = c.in_ok-reserve.ensures.others in
    let room : nat_lt (length standing.relay.queue) standing.room ≡ true = ap (λ (t : Standing). nat_lt (length t.relay.queue) t.room) c.self.view_is ∙ sym c.if-not-has_room.ensures in
    elim c.match-send.branch [
      | in-Some-send v ↦ subst P (sym v.self-is)
          (sent_reaches standing c.args.viewer c.index_mut-slot.result.now c.in-Some.place c.send.new.self (input_in v.in-Some-send.input) v.push.new.self within c.index_mut-slot.ensures.value c.in-Some.is room
          (sym c.send.ensures.value ∙ ap (option_map input_in) v.in-Some-send.is) c.send.ensures.sent
          (v.push.ensures.queue ∙ ap (λ (t : RelaySide). t.queue ++ record { viewer = c.args.viewer; input = input_in v.in-Some-send.input } ∷ []) reserved) (v.push.ensures.taken ∙ ap (λ (t : RelaySide). t.taken) reserved) s w stood)
      | in_default-send v ↦ subst P (sym v.self-is)
          (none_reaches_host standing c.args.viewer c.index_mut-slot.result.now c.in-Some.place c.send.new.self c.reserve.new.self within c.index_mut-slot.ensures.value c.in-Some.is
          (sym c.send.ensures.value ∙ ap (option_map input_in) v.in_default-send.is) c.send.ensures.sent
          (ap (λ (t : RelaySide). t.queue) reserved) (ap (λ (t : RelaySide). t.taken) reserved) s w stood)
    ]

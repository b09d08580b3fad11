-- A request for all of the screen is made, and a key moment is begun.
use Rattle.std.proofs.Common.{refl}
use Rattle.record_link.specs.Linked.{Linked}
use Rattle.record_link.proofs.Linking.{asks_key_linked, says_linked, size_linked, state_same}
use Rattle.record_link.proofs.recorder.RecordLink.ask_key.Goals as goal

pub ask-requires-clause-size : goal.ask-requires-clause-size
ask-requires-clause-size g c =
    let old : Linked = record { growing = c.self.inside.growing; talk = c.self.inside.talk; failed = c.self.inside.failures } in
    let free = c.in-Some.ensures in
    size_linked old c.in-Some.joined c.self.invariant.1 free.whole

pub invariant_of-self : goal.invariant_of-self
invariant_of-self g c =
    let old : Linked = record { growing = c.self.inside.growing; talk = c.self.inside.talk; failed = c.self.inside.failures } in
    (c.self.invariant.0, says_linked old _ (c.begin_key.ensures.none c.if-not-begin_key.true) (λ heard kinds h. h) c.self.invariant.1)

pub invariant_of-self-2 : goal.invariant_of-self-2
invariant_of-self-2 g c =
    let old : Linked = record { growing = c.self.inside.growing; talk = c.self.inside.talk; failed = c.self.inside.failures } in
    (c.self.invariant.0, asks_key_linked old _ _ c.begin_key.ensures.recorded (c.begin_key.ensures.begun c.if-not-begin_key.false) c.ask.ensures.says c.self.invariant.1)

pub returns : goal.returns
returns g c =
    let old : Linked = record { growing = c.self.inside.growing; talk = c.self.inside.talk; failed = c.self.inside.failures } in
    let new : Linked = record { growing = c.begin_key.new.self; talk = c.ask.new.self; failed = c.self.inside.failures } in
    rw (← c.self.view_is) (state_same old new c.ask.ensures.taken c.begin_key.ensures.recorded refl)

-- A request is made.
use Rattle.std.proofs.Common.{refl}
use Rattle.record_link.specs.Linked.{Linked}
use Rattle.record_link.proofs.Linking.{asks_linked, size_linked, state_same}
use Rattle.record_link.proofs.recorder.RecordLink.ask_more.Goals as goal

pub ask-requires-clause-size : goal.ask-requires-clause-size
ask-requires-clause-size g c =
    let old : Linked = record { growing = c.self.inside.growing; talk = c.self.inside.talk; failed = c.self.inside.failures } in
    let free = c.in-Some.ensures in
    size_linked old c.in-Some.joined c.self.invariant.1 free.whole

pub invariant_of-self : goal.invariant_of-self
invariant_of-self g c =
    let old : Linked = record { growing = c.self.inside.growing; talk = c.self.inside.talk; failed = c.self.inside.failures } in
    (c.self.invariant.0, asks_linked old _ _ refl c.ask.ensures.says c.self.invariant.1)

pub returns : goal.returns
returns g c =
    let old : Linked = record { growing = c.self.inside.growing; talk = c.self.inside.talk; failed = c.self.inside.failures } in
    let new : Linked = record { growing = c.self.inside.growing; talk = c.ask.new.self; failed = c.self.inside.failures } in
    rw (← c.self.view_is) (state_same old new c.ask.ensures.taken refl refl)

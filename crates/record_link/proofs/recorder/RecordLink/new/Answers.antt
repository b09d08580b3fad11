-- A link begins with nothing taken or given.
use Rattle.std.proofs.Common.{refl, arith}
use Rattle.record_link.specs.Linked.{Linked}
use Rattle.record_link.proofs.Linking.{begins_linked, state_begins}
use Rattle.record_link.proofs.recorder.RecordLink.new.Goals as goal

pub invariant_of-result : goal.invariant_of-result
invariant_of-result g c = (omega arith, begins_linked _ c.in_ok-growing.ensures.recorded c.in_ok-growing.ensures.points c.new-2.ensures.says)

pub returns : goal.returns
returns g c =
    let link : Linked = record { growing = c.in_ok-growing.growing; talk = c.new-2.result; failed = 0 } in
    state_begins link c.new-2.ensures.taken c.in_ok-growing.ensures.recorded refl

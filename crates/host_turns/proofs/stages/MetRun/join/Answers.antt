-- The host is joined, and its switch is put; or it is missed.
use Rattle.std.proofs.Common.{refl}
use Rattle.std.proofs.Math.Logic.{∥∥₁_map}
use Rattle.host_turns.specs.Running.{IsComing}
use Rattle.host_turns.proofs.Turns.{begun, missed}
use Rattle.host_turns.proofs.stages.MetRun.join.Goals as goal

pub invariant_of-joined-clause-lawful : goal.invariant_of-joined-clause-lawful
invariant_of-joined-clause-lawful g c =
    let state = g.L.Link.state in
    let met = c.args.self in
    ∥∥₁_map met.lawful (λ k.
    rw c.meet-met.ensures.links
    (begun _ _ _ (IsComing state g.H.Hosts.came) met.last _ met.has_called (state met.reader) _ _ _ _ _ k.1 met.on (met.reader, k.0, refl) c.in-Ok.ensures.met))

pub invariant_of-result-clause-lawful : goal.invariant_of-result-clause-lawful
invariant_of-result-clause-lawful g c =
    let state = g.L.Link.state in
    let met = c.args.self in
    ∥∥₁_map met.lawful (λ k.
    rw (c.meet-met.ensures.links, c.in-Err.ensures.unput)
    (missed _ _ _ (IsComing state g.H.Hosts.came) met.last _ _ met.has_called (state met.reader) _ _ _ k.1 met.on (met.reader, k.0, refl) (c.in-Err.fault, refl, c.in-Err.ensures.err)))

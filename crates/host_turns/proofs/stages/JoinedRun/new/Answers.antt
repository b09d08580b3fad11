-- The first host is to be read.
use Rattle.std.proofs.Common.{ap, ap₂, inl, map, sym}
use Rattle.host_turns.specs.Running.{came_over}
use Rattle.host_turns.proofs.stages.JoinedRun.new.Goals as goal

pub invariant_of-result-clause-lawful : goal.invariant_of-result-clause-lawful
invariant_of-result-clause-lawful g c =
    ∣ inl (record { same = ap₂ came_over (sym c.requires.first.0) (ap g.L.Link.state (sym c.requires.first.1)); none = ap (map g.L.Link.state) c.requires.room.0; unput = ap g.P.Puts.updates (sym c.requires.first.3) }) ∣₁

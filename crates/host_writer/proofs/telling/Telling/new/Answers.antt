-- Nothing was done yet.
use Rattle.std.proofs.Common.{ap}
use Rattle.host_writer.proofs.Writers.{telling_begins_at}
use Rattle.host_writer.proofs.telling.Telling.new.Goals as goal

pub invariant_of-result-clause-counted : goal.invariant_of-result-clause-counted
invariant_of-result-clause-counted g c = ∣ (λ k. rw (← c.requires.first.2, ← c.requires.first.3, ← c.requires.first.4) k) ∣₁

pub invariant_of-result-clause-lawful : goal.invariant_of-result-clause-lawful
invariant_of-result-clause-lawful g c = ∣ telling_begins_at g.S.ScreenSource.looks _ _ _ _ _ _ _ _ _ _ _ c.requires.first.1 (ap g.K.InputSource.taken c.requires.first.2) c.requires.first.3 c.nothing.ensures (ap g.L.Link.state c.requires.first.0) ∣₁

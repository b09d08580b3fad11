-- No host was told yet.
use Rattle.std.proofs.Common.{refl, sym, ap}
use Rattle.reflector.proofs.Telling.{telling_begins}
use Rattle.reflector.proofs.teller.FreeTeller.new.Goals as goal

pub invariant_of-result-clause-counted : goal.invariant_of-result-clause-counted
invariant_of-result-clause-counted g c = ∣ (λ k. rw (← c.requires.first.1, ← c.requires.first.2, ← c.requires.first.3) k) ∣₁

pub invariant_of-result-clause-lawful : goal.invariant_of-result-clause-lawful
invariant_of-result-clause-lawful g c = ∣ telling_begins _ _ _ _ _ _ _ _ c.new.ensures (sym c.requires.first.0) (ap g.K.InputSource.taken (sym c.requires.first.1)) (sym c.requires.first.2) refl ∣₁

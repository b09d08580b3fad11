-- Nothing was done yet.
use Rattle.viewer_server.proofs.Visited.{visited_begins}
use Rattle.viewer_server.proofs.visit.Visit.new.Goals as goal

pub invariant_of-result-clause-lawful : goal.invariant_of-result-clause-lawful
invariant_of-result-clause-lawful g c = ∣ (λ s role greet k. rw (c.requires.first.0, c.requires.first.1, c.requires.first.2) (visited_begins g.S.ScreenSource.looks g.S.ScreenSource.cuts _ _ _ s role greet _ _ _ _ c.requires.uncut c.new.ensures (rw c.requires.first.3 at k))) ∣₁

-- A flush changes nothing of what was given.
use Rattle.std.proofs.Math.Logic.{∥∥₁_map}
use Rattle.viewer_server.proofs.Visited.{flushed}
use Rattle.std.proofs.Common.{subst, sym}
use Rattle.viewer_server.proofs.visit.Visit.flush.Goals as goal

pub invariant_of-self-clause-lawful : goal.invariant_of-self-clause-lawful
invariant_of-self-clause-lawful g c = ∥∥₁_map c.args.self.now.lawful (λ f. λ s role greet k.
    flushed g.S.ScreenSource.looks g.S.ScreenSource.cuts _ s _ _ _ _ _ _ c.args.self.now.is_served _ _ _ _ _ c.flush.ensures (f s role greet k))

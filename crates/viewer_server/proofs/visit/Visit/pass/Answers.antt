-- What waits goes on.
use Rattle.std.proofs.Math.Logic.{∥∥₁_map}
use Rattle.viewer_server.proofs.Visited.{visited_passed}
use Rattle.viewer_server.proofs.visit.Visit.pass.Goals as goal

pub invariant_of-self-clause-lawful : goal.invariant_of-self-clause-lawful
invariant_of-self-clause-lawful g c = ∥∥₁_map c.args.self.now.lawful (λ f. λ s role greet k.
    visited_passed g.S.ScreenSource.looks g.S.ScreenSource.cuts _ s _ _ _ g.K.InputSink.may_refuse _ _ _ c.args.self.now.is_served _ _ _ _ _ c.pass.result _ c.requires (f s role greet k) c.pass.ensures)

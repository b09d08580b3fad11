-- Input goes on.
use Rattle.std.proofs.Math.Logic.{∥∥₁_map}
use Rattle.viewer_server.proofs.Visited.{relayed, under_way, visited}
use Rattle.viewer_server.proofs.visit.Visit.relay.Goals as goal

pub invariant_of-self-clause-lawful : goal.invariant_of-self-clause-lawful
invariant_of-self-clause-lawful g c = ∥∥₁_map c.args.self.now.lawful (λ f. λ s role greet k.
    visited g.S.ScreenSource.looks g.S.ScreenSource.cuts _ s _ _ _ _ _ _ c.args.self.now.is_served _ _ _ _ c.requires
    (relayed g.S.ScreenSource.looks g.S.ScreenSource.cuts _ s _ _ _ g.K.InputSink.may_refuse _ _ _ _ _ _ _ _ _ c.relay.result _ (under_way g.S.ScreenSource.looks g.S.ScreenSource.cuts _ s _ _ _ _ _ _ c.args.self.now.is_served _ _ _ _ c.requires (f s role greet k)) c.relay.ensures.same c.relay.ensures.left c.relay.ensures.goes_on))

pub returns-clause-keeps : goal.returns-clause-keeps
returns-clause-keeps g c = λ a s p x l k. relayed g.S.ScreenSource.looks g.S.ScreenSource.cuts a s p x l g.K.InputSink.may_refuse _ _ _ _ _ _ _ _ _ c.relay.result _ k c.relay.ensures.same c.relay.ensures.left c.relay.ensures.goes_on

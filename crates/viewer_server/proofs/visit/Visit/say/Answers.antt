-- Bytes were given.
use Rattle.std.proofs.Math.Logic.{∥∥₁_map}
use Rattle.viewer_server.proofs.Visited.{said, under_way, visited}
use Rattle.viewer_server.proofs.visit.Visit.say.Goals as goal

pub invariant_of-self-clause-lawful : goal.invariant_of-self-clause-lawful
invariant_of-self-clause-lawful g c = ∥∥₁_map c.args.self.now.lawful (λ f. λ s role greet k.
    visited g.S.ScreenSource.looks g.S.ScreenSource.cuts _ s _ _ _ _ _ _ c.args.self.now.is_served _ _ _ _ c.requires
    (said g.S.ScreenSource.looks g.S.ScreenSource.cuts _ s _ _ _ _ _ _ _ _ _ _ _ _ _ (under_way g.S.ScreenSource.looks g.S.ScreenSource.cuts _ s _ _ _ _ _ _ c.args.self.now.is_served _ _ _ _ c.requires (f s role greet k)) c.say.ensures.says))

pub returns-clause-keeps : goal.returns-clause-keeps
returns-clause-keeps g c = λ a s p x l is_offered k. said g.S.ScreenSource.looks g.S.ScreenSource.cuts a s p x l _ _ _ _ _ _ _ is_offered _ _ k c.say.ensures.says

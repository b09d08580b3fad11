-- The viewer has a turn, or the source has ended.
use Rattle.std.proofs.Math.Logic.{∥∥₁_map}
use Rattle.viewer_server.proofs.Visited.{offered_or_gone, keeps_offered, under_way}
use Rattle.viewer_server.proofs.visit.Visit.offer.Goals as goal

pub invariant_of-self-clause-lawful : goal.invariant_of-self-clause-lawful
invariant_of-self-clause-lawful g c = ∥∥₁_map c.args.self.now.lawful (λ f. λ s role greet k.
    rw c.is_ok-self.ensures.value
    (offered_or_gone g.S.ScreenSource.looks g.S.ScreenSource.cuts _ s _ _ _ g.S.ScreenSource.may_end _ _ _ _ (g.S.ScreenSource.answered c.args.self.now.source) (g.S.ScreenSource.answered c.offer-offered.new.source) _ _ _ _ c.offer-offered.result _ (under_way g.S.ScreenSource.looks g.S.ScreenSource.cuts _ s _ _ _ _ _ _ c.args.self.now.is_served _ _ _ _ c.requires (f s role greet k)) c.offer-offered.ensures.grows c.offer-offered.ensures.offers))

pub returns-clause-keeps : goal.returns-clause-keeps
returns-clause-keeps g c = keeps_offered g.S.ScreenSource.looks g.S.ScreenSource.cuts g.S.ScreenSource.may_end _ _ _ _ (g.S.ScreenSource.answered c.args.self.now.source) (g.S.ScreenSource.answered c.offer-offered.new.source) _ _ _ _ c.offer-offered.result _ c.offer-offered.ensures.grows c.offer-offered.ensures.offers

use Rattle.std.proofs.Common.{sym, ap, subst, ◌∙◌}
use Rattle.viewer_session.specs.Session.{State, Stands, is_greeted}
use Rattle.viewer_session.specs.contracts.session.Session.{the_view}
use Rattle.viewer_session.proofs.SessionLaws.{between_stands}
use Rattle.viewer_session.proofs.session.Session.between.Goals as goal

pub returns-then-is_greeted : goal.returns-then-is_greeted
returns-then-is_greeted c = λ s p k.
    between_stands s (the_view c.self.inside) p c.is_between.result (ap is_greeted c.self.view_is ∙ (sym c.is_greeted.ensures.value ∙ c.if-is_greeted.true)) c.is_between.ensures.value.0 c.is_between.ensures.value.1 c.is_between.ensures.begins
    (subst (λ (st : State). Stands s st p) (sym c.self.view_is) k)

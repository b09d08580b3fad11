use Rattle.std.proofs.Common.{sym, ap, ◌∙◌}
use Rattle.viewer_session.specs.Session.{State}
use Rattle.viewer_session.proofs.Sending.{all_empty}
use Rattle.viewer_session.proofs.session.Session.out.Goals as goal

pub returns-clause-empty : goal.returns-clause-empty
returns-clause-empty c =
    let same = ap (λ (st : State). st.unsent) c.self.view_is in
    (λ e. sym same ∙ c.piece.ensures.shows e, λ e. all_empty c.piece.result.now c.piece.ensures.begins.0 (sym c.piece.ensures.begins.1 ∙ (same ∙ e)))

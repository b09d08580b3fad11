use Rattle.std.proofs.Common.{length, ap, ◌∙◌}
use Rattle.std.proofs.lemmas.Result.{IfErr-weaker}
use Rattle.viewer_session.specs.Outgoing.{Sending, all_coming}
use Rattle.viewer_session.proofs.Sending.{as_before}
use Rattle.viewer_session.proofs.outgoing.Outgoing.take.Goals as goal

pub returns-clause-err : goal.returns-clause-err
returns-clause-err g c =
    let o = c.self.inside in
    IfErr-weaker c.cut.result _ _
    (λ fault refused. (
      refused.0,
      refused.1,
      refused.2,
      as_before o.cut c.cut.new.into o.piece.filled o.piece.unsent (all_coming o.coming o.cut) (all_coming c.nothing.result c.cut.new.into) refused.3 (ap (λ (s : Sending). length s.unsent) c.self.view_is ∙ c.requires.sent) (ap (λ t. all_coming t c.cut.new.into) c.nothing.ensures) ∙ c.self.view_is,
    ))
    c.cut.ensures.err

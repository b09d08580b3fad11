use Rattle.std.proofs.Common.{false, refl}
use Rattle.std.proofs.lemmas.Result.{IfOk-weaker}
use Rattle.viewer_session.proofs.session.Session.ready.Goals as goal

pub returns-clause-stands : goal.returns-clause-stands
returns-clause-stands c =
    IfOk-weaker c.begun.result _ _ (λ session stands s w h form host. stands s false w h form host (record { greets = (refl, refl); unsent = c.in_ok-out.ensures.empty.2 })) c.begun.ensures.stands

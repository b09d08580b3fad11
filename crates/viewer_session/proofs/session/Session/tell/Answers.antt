use Rattle.std.proofs.Common.{ap, subst, sym}
use Rattle.reflect_core.specs.Asked.{Wanted, AskedStands}
use Rattle.viewer_session.specs.Session.{State}
use Rattle.viewer_session.proofs.session.Session.tell.Goals as goal

pub returns-clause-asked : goal.returns-clause-asked
returns-clause-asked c = λ es stands.
    c.resized.ensures.stands c.args.size es (subst (λ (w : Wanted). AskedStands w es) (sym (ap (λ (st : State). st.asked) c.self.view_is)) stands)

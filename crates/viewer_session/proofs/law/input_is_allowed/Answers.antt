use Rattle.viewer_session.proofs.Passing.{hands_out_allowed, releases_allowed}
use Rattle.viewer_session.proofs.law.input_is_allowed.Goals as goal

pub returns-clause-stays : goal.returns-clause-stays
returns-clause-stays c = hands_out_allowed

pub returns-clause-leaves : goal.returns-clause-leaves
returns-clause-leaves c = releases_allowed

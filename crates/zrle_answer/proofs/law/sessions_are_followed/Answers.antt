use Rattle.zrle_answer.proofs.Sessions.{sessions_are_followed}
use Rattle.zrle_answer.proofs.law.sessions_are_followed.Goals as goal

pub returns : goal.returns
returns c = sessions_are_followed c.parts_are_read.ensures

use Rattle.zrle_answer.proofs.Followed.{answers_are_followed}
use Rattle.zrle_answer.proofs.law.answers_are_followed.Goals as goal

pub returns : goal.returns
returns c = answers_are_followed c.parts_are_read.ensures

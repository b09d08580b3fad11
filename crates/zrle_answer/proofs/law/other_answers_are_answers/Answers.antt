use Rattle.zrle_answer.proofs.Others.{other_answers_are_answers}
use Rattle.zrle_answer.proofs.law.other_answers_are_answers.Goals as goal

pub returns : goal.returns
returns c = other_answers_are_answers

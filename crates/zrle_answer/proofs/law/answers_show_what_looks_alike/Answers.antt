use Rattle.zrle_answer.proofs.LookAlike.{answers_show_what_looks_alike}
use Rattle.zrle_answer.proofs.law.answers_show_what_looks_alike.Goals as goal

pub returns : goal.returns
returns c = answers_show_what_looks_alike

use Rattle.zrle_answer.proofs.Cuts.{cuts_are_answered}
use Rattle.zrle_answer.proofs.law.cuts_are_answered.Goals as goal

pub returns : goal.returns
returns c = cuts_are_answered

use Rattle.update_encoder.proofs.CutLaws.{cut_is_answered}
use Rattle.update_encoder.proofs.law.cut_is_answered.Goals as goal

pub returns : goal.returns
returns c = cut_is_answered

use Rattle.zrle_answer.proofs.Example.{example_is_followed}
use Rattle.zrle_answer.proofs.law.example_is_followed.Goals as goal

pub returns : goal.returns
returns c = example_is_followed

use Rattle.zrle_answer.proofs.Sessions.{following_goes_on}
use Rattle.zrle_answer.proofs.law.following_goes_on.Goals as goal

pub returns : goal.returns
returns c = following_goes_on

use Rattle.zrle_answer.proofs.OneFollowing.{following_leads_somewhere}
use Rattle.zrle_answer.proofs.law.following_leads_somewhere.Goals as goal

pub returns : goal.returns
returns c = following_leads_somewhere

use Rattle.zrle_answer.proofs.OneFollowing.{following_all_is_one_thing}
use Rattle.zrle_answer.proofs.law.following_all_is_one_thing.Goals as goal

pub returns : goal.returns
returns c = following_all_is_one_thing c.data_bring_one_thing.ensures

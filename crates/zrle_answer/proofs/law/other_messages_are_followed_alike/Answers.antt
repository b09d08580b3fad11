use Rattle.zrle_answer.proofs.Alike.{other_messages_are_followed_alike}
use Rattle.zrle_answer.proofs.law.other_messages_are_followed_alike.Goals as goal

pub returns : goal.returns
returns c = other_messages_are_followed_alike

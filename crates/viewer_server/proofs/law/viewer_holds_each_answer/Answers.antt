use Rattle.viewer_server.proofs.Following.{holds_after_each_answer}
use Rattle.viewer_server.proofs.law.viewer_holds_each_answer.Goals as goal

pub returns : goal.returns
returns c = holds_after_each_answer

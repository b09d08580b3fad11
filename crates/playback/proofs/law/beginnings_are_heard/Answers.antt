use Rattle.playback.proofs.Laws.{begins_heard}
use Rattle.playback.proofs.law.beginnings_are_heard.Goals as goal

pub returns : goal.returns
returns c = begins_heard

use Rattle.played_session.proofs.Playing.{recordings_show}
use Rattle.played_session.proofs.law.recordings_show_what_was_sent.Goals as goal

pub returns : goal.returns
returns c = recordings_show

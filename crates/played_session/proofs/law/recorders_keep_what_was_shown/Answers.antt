use Rattle.played_session.proofs.Recorded.{recorders_keep}
use Rattle.played_session.proofs.law.recorders_keep_what_was_shown.Goals as goal

pub returns : goal.returns
returns c = recorders_keep c.client_messages_are_read.ensures.request

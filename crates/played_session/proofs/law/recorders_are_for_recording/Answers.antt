use Rattle.played_session.proofs.Recorder.{recorders_ask_for_all, recorders_take_full_colour}
use Rattle.played_session.proofs.law.recorders_are_for_recording.Goals as goal

pub returns-clause-colour : goal.returns-clause-colour
returns-clause-colour c = recorders_take_full_colour c.client_messages_are_read.ensures.request

pub returns-clause-all : goal.returns-clause-all
returns-clause-all c = recorders_ask_for_all c.client_messages_are_read.ensures.request

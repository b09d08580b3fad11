use Rattle.playback.proofs.Laws.{recording_heard, key_heard, own_handshake}
use Rattle.playback.proofs.law.recordings_are_heard.Goals as goal

pub returns-clause-all : goal.returns-clause-all
returns-clause-all c = recording_heard

pub returns-clause-key : goal.returns-clause-key
returns-clause-key c = key_heard

pub returns-clause-handshake : goal.returns-clause-handshake
returns-clause-handshake c = own_handshake

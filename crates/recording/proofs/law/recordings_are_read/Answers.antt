use Rattle.recording.proofs.ReadBack.{recording_is_read}
use Rattle.recording.proofs.law.recordings_are_read.Goals as goal

pub returns-clause-blocks : goal.returns-clause-blocks
returns-clause-blocks c = λ blocks h. (recording_is_read blocks h).0

pub returns-clause-whole : goal.returns-clause-whole
returns-clause-whole c = λ blocks h. (recording_is_read blocks h).1

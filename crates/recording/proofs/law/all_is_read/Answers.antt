use Rattle.recording.proofs.ReadBack.{begins_read, feeds_read, goes_on_read}
use Rattle.recording.proofs.law.all_is_read.Goals as goal

pub returns-clause-begins : goal.returns-clause-begins
returns-clause-begins c = begins_read

pub returns-clause-feeds : goal.returns-clause-feeds
returns-clause-feeds c = feeds_read

pub returns-clause-goes_on : goal.returns-clause-goes_on
returns-clause-goes_on c = goes_on_read

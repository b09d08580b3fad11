use Rattle.record_link.proofs.Played.{whole_is_read}
use Rattle.record_link.proofs.law.whole_recordings_are_read.Goals as goal

pub returns : goal.returns
returns c = whole_is_read

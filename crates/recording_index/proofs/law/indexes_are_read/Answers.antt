use Rattle.recording_index.proofs.Entries.{whole_is_read, whole_is_fine}
use Rattle.recording_index.proofs.law.indexes_are_read.Goals as goal

pub returns-clause-moments : goal.returns-clause-moments
returns-clause-moments c = whole_is_read

pub returns-clause-fine : goal.returns-clause-fine
returns-clause-fine c = whole_is_fine

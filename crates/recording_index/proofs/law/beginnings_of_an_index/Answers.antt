use Rattle.recording_index.proofs.Entries.{cut_is_fine, cut_moments}
use Rattle.recording_index.proofs.law.beginnings_of_an_index.Goals as goal

pub returns-clause-fine : goal.returns-clause-fine
returns-clause-fine c = cut_is_fine

pub returns-clause-moments : goal.returns-clause-moments
returns-clause-moments c = cut_moments

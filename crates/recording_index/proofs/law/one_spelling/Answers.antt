use Rattle.recording_index.proofs.Spelling.{read_in_order, spelled_again}
use Rattle.recording_index.proofs.law.one_spelling.Goals as goal

pub returns-clause-in_order : goal.returns-clause-in_order
returns-clause-in_order c = read_in_order

pub returns-clause-spells : goal.returns-clause-spells
returns-clause-spells c = spelled_again

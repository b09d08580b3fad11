use Rattle.recording.proofs.Recorded.{keep_keeps, flush_keeps, spelled_behind}
use Rattle.recording.specs.Waiting.{as_blocks}
use Rattle.recording.proofs.law.all_is_recorded.Goals as goal

pub returns-clause-keeps : goal.returns-clause-keeps
returns-clause-keeps c = keep_keeps

pub returns-clause-flushes : goal.returns-clause-flushes
returns-clause-flushes c = flush_keeps

pub returns-clause-spells : goal.returns-clause-spells
returns-clause-spells c = λ blocks waiting. spelled_behind blocks (as_blocks waiting)

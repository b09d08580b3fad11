use Rattle.joined_runs.proofs.Shorter.{joined_shorter}
use Rattle.joined_runs.proofs.law.joined_is_shorter.Goals as goal

pub returns : goal.returns
returns c = joined_shorter

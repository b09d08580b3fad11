use Rattle.copy_log.proofs.Lacking.{passing_goes_on}
use Rattle.copy_log.proofs.law.passing_goes_on.Goals as goal

pub returns : goal.returns
returns c = passing_goes_on

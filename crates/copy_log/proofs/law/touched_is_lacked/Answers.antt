use Rattle.copy_log.proofs.Leads.{touched_is_lacked}
use Rattle.copy_log.proofs.law.touched_is_lacked.Goals as goal

pub returns : goal.returns
returns c = touched_is_lacked

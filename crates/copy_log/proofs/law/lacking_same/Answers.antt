use Rattle.copy_log.proofs.Leads.{lacking_same}
use Rattle.copy_log.proofs.law.lacking_same.Goals as goal

pub returns : goal.returns
returns c = lacking_same

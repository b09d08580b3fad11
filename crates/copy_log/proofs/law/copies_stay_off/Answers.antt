use Rattle.copy_log.proofs.Leads.{copies_stay_off}
use Rattle.copy_log.proofs.law.copies_stay_off.Goals as goal

pub returns : goal.returns
returns c = copies_stay_off

use Rattle.copy_log.proofs.Lacking.{lacked_is_touched, lacked_stays}
use Rattle.copy_log.proofs.law.lacked_is_touched.Goals as goal

pub returns-clause-stays : goal.returns-clause-stays
returns-clause-stays c = lacked_stays

pub returns-clause-touched : goal.returns-clause-touched
returns-clause-touched c = lacked_is_touched

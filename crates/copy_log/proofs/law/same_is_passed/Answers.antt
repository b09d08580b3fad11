use Rattle.copy_log.proofs.Same.{none_passed, same_is_passed}
use Rattle.copy_log.proofs.law.same_is_passed.Goals as goal

pub returns-clause-none : goal.returns-clause-none
returns-clause-none c = none_passed

pub returns-clause-same : goal.returns-clause-same
returns-clause-same c = same_is_passed

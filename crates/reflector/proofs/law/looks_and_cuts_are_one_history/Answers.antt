use Rattle.reflector.proofs.OneHistory.{followed}
use Rattle.reflector.proofs.law.looks_and_cuts_are_one_history.Goals as goal

pub returns : goal.returns
returns c = λ us old acts new low high shown begins. let f = followed us old acts new (low, high) shown begins in (f.history, f.follow)

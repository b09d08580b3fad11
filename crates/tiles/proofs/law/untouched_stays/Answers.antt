use Rattle.tiles.proofs.Untouched.{untouched_stays, due_where_touched}
use Rattle.tiles.proofs.law.untouched_stays.Goals as goal

pub returns-clause-stays : goal.returns-clause-stays
returns-clause-stays c = untouched_stays

pub returns-clause-due : goal.returns-clause-due
returns-clause-due c = due_where_touched

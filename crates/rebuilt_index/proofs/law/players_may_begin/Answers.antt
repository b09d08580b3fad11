use Rattle.rebuilt_index.proofs.Anewing.{is_index, shows_alike, stands_alike}
use Rattle.rebuilt_index.proofs.law.players_may_begin.Goals as goal

pub returns-clause-shows : goal.returns-clause-shows
returns-clause-shows c = shows_alike

pub returns-clause-stands : goal.returns-clause-stands
returns-clause-stands c = stands_alike

pub returns-clause-index : goal.returns-clause-index
returns-clause-index c = is_index

use Rattle.playback.proofs.Laws.{opening_heard, own_begins, own_heard}
use Rattle.playback.proofs.law.openings_are_heard.Goals as goal

pub returns-clause-heard : goal.returns-clause-heard
returns-clause-heard c = opening_heard

pub returns-clause-same : goal.returns-clause-same
returns-clause-same c = own_heard

pub returns-clause-begins : goal.returns-clause-begins
returns-clause-begins c = own_begins

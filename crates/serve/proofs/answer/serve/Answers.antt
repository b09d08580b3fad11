-- What the closure hands out says it all.
use Rattle.serve.proofs.Endings.{ended_well, in_range, status_tells, was_run}
use Rattle.serve.proofs.answer.serve.Goals as goal

pub returns-clause-ended : goal.returns-clause-ended
returns-clause-ended g c nought =
    let told = c.answer.ensures in ended_well c.args.settings.now told.0 c.answer.result told.1 told.2 nought

pub returns-clause-run : goal.returns-clause-run
returns-clause-run g c =
    let told = c.answer.ensures in was_run c.args.settings.now told.0 c.answer.result told.1 told.2

pub returns-clause-told : goal.returns-clause-told
returns-clause-told g c =
    let told = c.answer.ensures in status_tells c.args.settings.now told.0 c.answer.result told.1 told.2

pub returns-clause-status : goal.returns-clause-status
returns-clause-status g c =
    let told = c.answer.ensures in in_range told.0 c.answer.result told.2

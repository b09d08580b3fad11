use Rattle.tiles.proofs.Brought.{runs_bring_the_due}
use Rattle.tiles.proofs.law.runs_bring_the_due.Goals as goal

pub returns : goal.returns
returns c = runs_bring_the_due

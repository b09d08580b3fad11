use Rattle.tiles.specs.Grid.{due_at}
use Rattle.tiles.proofs.WalkLaws.{left_none}
use Rattle.tiles.proofs.due_runs.DueRunsIterator.next.Goals as goal

pub returns-in-None-clause-steps : goal.returns-in-None-clause-steps
returns-in-None-clause-steps c =
    (c.in-None.ensures.left, left_none c.next.new.self (due_at c.args.self.now.tiles.grid.now c.args.self.now.tiles.have.now) c.in-None.ensures.done.1)

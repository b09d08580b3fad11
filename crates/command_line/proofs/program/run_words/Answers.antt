-- What was done may end so.
use Rattle.command_line.proofs.Ends.{ends_as}
use Rattle.command_line.proofs.program.run_words.Goals as goal

pub returns : goal.returns
returns g c = (c.perform.ensures.0, c.perform.ensures.1, ends_as _ _ _ _ c.perform.ensures.0 _ c.perform.ensures.2 (λ settings s may. may.1) (λ s may. may) (λ s may. may) (λ s may. may))

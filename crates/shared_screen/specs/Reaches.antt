-- What a call of one thread says of the history that all threads share.
use Rattle.std.specs.Prelude.{List, ◌++◌, length, map}
use Rattle.reflect_core.specs.Sequential.{Shared, Step, Leads}
use Rattle.shared_screen.specs.History.{Change, TakeTurns, step_of}

-- The sequential screen goes from old to new by puts and raises of others, which take turns, and then by these steps
-- (own).
pub record Reaches (old : Shared) (steps : List Step) (new : Shared) : Type 0 where
  pub others : List Change
  pub by_turns : TakeTurns (length old.updates) old.tally others
  pub happen : Leads old (map step_of others ++ steps) new

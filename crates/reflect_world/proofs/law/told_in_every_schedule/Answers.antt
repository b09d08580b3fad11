use Rattle.reflect_world.proofs.Told.{told_in_every_schedule}
use Rattle.reflect_world.proofs.law.told_in_every_schedule.Goals as goal

pub returns : goal.returns
returns c = told_in_every_schedule

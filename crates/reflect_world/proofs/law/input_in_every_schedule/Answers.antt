use Rattle.reflect_world.proofs.InputLaws.{relays_allowed}
use Rattle.reflect_world.proofs.law.input_in_every_schedule.Goals as goal

pub returns : goal.returns
returns c = relays_allowed

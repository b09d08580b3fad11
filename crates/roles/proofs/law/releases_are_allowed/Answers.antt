use Rattle.roles.proofs.HeldLaws.{all_released}
use Rattle.roles.proofs.law.releases_are_allowed.Goals as goal

pub returns : goal.returns
returns c = all_released

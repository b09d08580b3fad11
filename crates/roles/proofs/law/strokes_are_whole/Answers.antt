use Rattle.roles.proofs.UnbrokenLaws.{picked, whole, alone, counted}
use Rattle.roles.proofs.law.strokes_are_whole.Goals as goal

pub returns-clause-picked : goal.returns-clause-picked
returns-clause-picked c = picked

pub returns-clause-whole : goal.returns-clause-whole
returns-clause-whole c = whole

pub returns-clause-alone : goal.returns-clause-alone
returns-clause-alone c = alone

pub returns-clause-counted : goal.returns-clause-counted
returns-clause-counted c = counted

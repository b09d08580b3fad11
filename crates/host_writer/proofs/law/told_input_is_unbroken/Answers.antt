use Rattle.host_writer.proofs.Writers.{told_is_unbroken, told_is_picked}
use Rattle.host_writer.proofs.law.told_input_is_unbroken.Goals as goal

pub returns-clause-told : goal.returns-clause-told
returns-clause-told c = told_is_unbroken

pub returns-clause-picked : goal.returns-clause-picked
returns-clause-picked c = told_is_picked

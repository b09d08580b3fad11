use Rattle.copy_log.proofs.Keeping.{copies_keep_up}
use Rattle.copy_log.proofs.law.copies_keep_up.Goals as goal

pub returns : goal.returns
returns c = copies_keep_up

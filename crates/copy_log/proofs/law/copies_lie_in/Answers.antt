use Rattle.copy_log.proofs.Leads.{copies_lie_in}
use Rattle.copy_log.proofs.law.copies_lie_in.Goals as goal

pub returns : goal.returns
returns c = copies_lie_in

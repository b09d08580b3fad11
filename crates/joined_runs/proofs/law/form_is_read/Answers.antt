use Rattle.joined_runs.proofs.Spelled as spelled
use Rattle.joined_runs.proofs.law.form_is_read.Goals as goal

pub returns : goal.returns
returns c = spelled.form_is_read

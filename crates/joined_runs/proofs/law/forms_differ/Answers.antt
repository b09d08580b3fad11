use Rattle.joined_runs.proofs.Spelled.{form_determines}
use Rattle.joined_runs.proofs.law.forms_differ.Goals as goal

pub returns : goal.returns
returns c = form_determines

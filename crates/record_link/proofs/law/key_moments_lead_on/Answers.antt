use Rattle.record_link.proofs.Played.{leads_on}
use Rattle.record_link.proofs.law.key_moments_lead_on.Goals as goal

pub returns : goal.returns
returns c = leads_on

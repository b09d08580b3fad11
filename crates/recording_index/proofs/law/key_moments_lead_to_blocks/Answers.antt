use Rattle.std.proofs.Common.{sym, ap}
use Rattle.recording_index.specs.declared.moment.KeyMoment.{KeyMoment}
use Rattle.recording_index.proofs.Places.{leads}
use Rattle.recording_index.proofs.law.key_moments_lead_to_blocks.Goals as goal

pub returns-clause-time : goal.returns-clause-time
returns-clause-time c = λ blocks m at. sym (ap (λ (x : KeyMoment). x.time) at.is)

pub returns-clause-read : goal.returns-clause-read
returns-clause-read c = leads

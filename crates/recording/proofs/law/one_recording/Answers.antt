use Rattle.std.proofs.Common.{sym, ap, ◌∙◌}
use Rattle.recording.specs.BlockReading.{blocks_in}
use Rattle.recording.proofs.ReadBack.{recording_is_read}
use Rattle.recording.proofs.law.one_recording.Goals as goal

pub returns : goal.returns
returns c = λ some others h g same. sym (recording_is_read some h).0 ∙ (ap blocks_in same ∙ (recording_is_read others g).0)

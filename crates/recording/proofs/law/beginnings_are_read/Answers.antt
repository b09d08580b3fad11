use Rattle.std.proofs.Common.{sym, ap, ◌∙◌}
use Rattle.recording.specs.BlockReading.{blocks_in, blocks_from, rest_of}
use Rattle.recording.proofs.ReadBack.{recording_is_read, in_pieces}
use Rattle.recording.proofs.law.beginnings_are_read.Goals as goal

pub returns : goal.returns
returns c = λ blocks front back h cut. (blocks_from (rest_of front) back, sym (recording_is_read blocks h).0 ∙ (ap blocks_in cut ∙ (in_pieces front back).0))

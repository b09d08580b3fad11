use Rattle.zrle_codec.proofs.StandardLengths.{packed_lengths}
use Rattle.zrle_codec.proofs.law.packed_lengths_are_the_standards.Goals as goal

pub returns : goal.returns
returns c = packed_lengths

use Rattle.zrle_codec.proofs.StandardLengths.{run_lengths}
use Rattle.zrle_codec.proofs.law.run_lengths_are_the_standards.Goals as goal

pub returns : goal.returns
returns c = run_lengths

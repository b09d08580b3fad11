use Rattle.zrle_codec.proofs.OneStream.{areas_are_read}
use Rattle.zrle_codec.proofs.law.areas_are_read.Goals as goal

pub returns : goal.returns
returns c = areas_are_read

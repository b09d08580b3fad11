use Rattle.zrle_codec.proofs.OneStream.{parts_are_read}
use Rattle.zrle_codec.proofs.law.parts_are_read.Goals as goal

pub returns : goal.returns
returns c = parts_are_read

use Rattle.zrle_codec.proofs.ReadBack.{read_back}
use Rattle.zrle_codec.proofs.law.cpixels_are_read_back.Goals as goal

pub returns : goal.returns
returns c = read_back

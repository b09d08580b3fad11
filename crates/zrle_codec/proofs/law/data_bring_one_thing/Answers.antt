use Rattle.zrle_codec.proofs.OneStream.{data_bring}
use Rattle.zrle_codec.proofs.law.data_bring_one_thing.Goals as goal

pub returns : goal.returns
returns c = data_bring c.blocks_inflate_to_one_thing.ensures

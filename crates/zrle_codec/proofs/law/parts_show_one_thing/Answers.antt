use Rattle.zrle_codec.proofs.OneStream.{parts_show}
use Rattle.zrle_codec.proofs.law.parts_show_one_thing.Goals as goal

pub returns : goal.returns
returns c = parts_show c.parts_have_one_source.ensures

use Rattle.zrle_codec.proofs.OneStream.{areas_show}
use Rattle.zrle_codec.proofs.law.parts_show_areas_in_order.Goals as goal

pub returns : goal.returns
returns c = areas_show c.parts_have_one_source.ensures c.nothing_is_a_part.ensures c.parts_concatenate.ensures

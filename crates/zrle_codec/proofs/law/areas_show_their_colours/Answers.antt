use Rattle.zrle_codec.proofs.OneStream.{areas_show_colours}
use Rattle.zrle_codec.proofs.law.areas_show_their_colours.Goals as goal

pub returns : goal.returns
returns c = areas_show_colours

use Rattle.zrle_codec.proofs.OneRectangle.{one_rectangle}
use Rattle.zrle_codec.proofs.law.rectangles_draw_one_thing.Goals as goal

pub returns : goal.returns
returns c = one_rectangle

use Rattle.zrle_codec.proofs.OneTile.{one_tile}
use Rattle.zrle_codec.proofs.law.tiles_draw_one_thing.Goals as goal

pub returns : goal.returns
returns c = one_tile

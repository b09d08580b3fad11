use Rattle.hextile_codec.proofs.JoinBits.{joined_bit}
use Rattle.hextile_codec.proofs.tile_marks.TileMarks.four_joins.Goals as goal

pub returns-clause-bits : goal.returns-clause-bits
returns-clause-bits c canvas are its r x lr lx =
    joined_bit canvas c.args.self.now are c.args.breaks.now its c.args.k r x c.requires.word lr lx c.top_row.result c.reaching.result c.top_row.ensures.first c.top_row.ensures.others c.reaching.ensures.reached c.reaching.ensures.only

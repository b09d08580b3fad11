use Rattle.hextile_codec.proofs.MaskBits.{turned_at}
use Rattle.hextile_codec.proofs.marking.turned.Goals as goal

pub returns-clause-values : goal.returns-clause-values
returns-clause-values c x some lt = turned_at c.args.row x c.requires some lt

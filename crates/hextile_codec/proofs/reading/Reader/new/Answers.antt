use Rattle.hextile_codec.proofs.Behind.{all_ahead}
use Rattle.hextile_codec.proofs.reading.Reader.new.Goals as goal

pub returns-clause-begins : goal.returns-clause-begins
returns-clause-begins c part = rw c.new.ensures (all_ahead c.args.format c.args.w c.args.h part)

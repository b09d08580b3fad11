use Rattle.std.proofs.Common.{refl}
use Rattle.rre_codec.proofs.reading.Reader.new.Goals as goal

pub returns-clause-begins : goal.returns-clause-begins
returns-clause-begins c sofar = rw c.new.ensures refl

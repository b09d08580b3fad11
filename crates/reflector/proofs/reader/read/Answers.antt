-- What reads the first host begins with is what came.
use Rattle.reflector.proofs.reader.read.Goals as goal

pub read_all-ended-requires-clause-begins : goal.read_all-ended-requires-clause-begins
read_all-ended-requires-clause-begins g c = rw (c.new-run.ensures.parts.2, c.new-run.ensures.lent.1) c.requires.begins

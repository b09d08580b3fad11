use Rattle.recording.proofs.ReadBack.{in_pieces}
use Rattle.recording.proofs.law.recordings_in_pieces.Goals as goal

pub returns-clause-blocks : goal.returns-clause-blocks
returns-clause-blocks c = λ front back. (in_pieces front back).0

pub returns-clause-rest : goal.returns-clause-rest
returns-clause-rest c = λ front back. (in_pieces front back).1

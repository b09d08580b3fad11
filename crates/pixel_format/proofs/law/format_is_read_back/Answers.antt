use Rattle.pixel_format.proofs.FormatsBack.{format_back, written_is_accepted}
use Rattle.pixel_format.proofs.law.format_is_read_back.Goals as goal

pub returns-clause-accepted : goal.returns-clause-accepted
returns-clause-accepted c = written_is_accepted

pub returns-clause-value : goal.returns-clause-value
returns-clause-value c = format_back

-- The induction over a run stands in proofs/Happenings.antt.
use Rattle.run_control.proofs.Happenings.{whoever_stays}
use Rattle.run_control.proofs.law.whoever_is_there_stays.Goals as goal

pub returns : goal.returns
returns c = whoever_stays

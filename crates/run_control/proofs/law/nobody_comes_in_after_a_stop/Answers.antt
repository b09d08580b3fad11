-- The induction over a run stands in proofs/Happenings.antt.
use Rattle.run_control.proofs.Happenings.{nobody_comes_in}
use Rattle.run_control.proofs.law.nobody_comes_in_after_a_stop.Goals as goal

pub returns : goal.returns
returns c = nobody_comes_in

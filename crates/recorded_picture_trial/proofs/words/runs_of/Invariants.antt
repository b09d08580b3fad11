use Rattle.std.proofs.Common.{◌≤◌}
use Rattle.recorded_picture_trial.proofs.words.runs_of.Given as goal

abbrev pub invariant-loop-at : goal.invariant-loop-at
invariant-loop-at l = l.begun ≤ l.at

-- Nothing is kept of the hosts that are no recordings.
use Rattle.serve.proofs.run.has_recording.Given as goal

abbrev pub invariant-loop-host : goal.invariant-loop-host
invariant-loop-host l = Unit {0}

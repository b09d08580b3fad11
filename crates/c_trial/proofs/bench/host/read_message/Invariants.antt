use Rattle.std.proofs.Common.{length}
use Rattle.host_decoder.specs.Decoder.{IsFor}
use Rattle.c_trial.proofs.bench.host.read_message.Given as goal

abbrev pub invariant-loop-left : goal.invariant-loop-left
invariant-loop-left l = IsFor l.screen.decoder l.screen.painter

abbrev pub decreases-loop-left : goal.decreases-loop-left
decreases-loop-left l = length l.left

use Rattle.host_decoder.specs.Decoder.{IsFor}
use Rattle.c_trial.proofs.fuzz.host.read.Given as goal

abbrev pub invariant-loop : goal.invariant-loop
invariant-loop l = IsFor l.screen.decoder l.screen.painter

use Rattle.std.proofs.Common.{◌≡◌}
use Rattle.input_relay.specs.Ends.{host_of}
use Rattle.input_relay_tests.proofs.queue.take_most.Given as goal

abbrev pub invariant-loop-key : goal.invariant-loop-key
invariant-loop-key g l = host_of l.taker ≡ host_of l.initial.taker

use Rattle.std.proofs.Common.{◌≡◌}
use Rattle.input_relay.specs.Ends.{host_of}
use Rattle.input_relay_tests.proofs.queue.wait_for.Given as goal

abbrev pub invariant-loop : goal.invariant-loop
invariant-loop g l = host_of l.taker ≡ host_of l.initial.taker

use Rattle.std.proofs.Common.{◌≡◌}
use Rattle.input_relay.specs.Ends.{relay_of}
use Rattle.input_relay_tests.proofs.queue.send.Given as goal

abbrev pub invariant-loop : goal.invariant-loop
invariant-loop g l = relay_of l.sender ≡ relay_of l.initial.sender

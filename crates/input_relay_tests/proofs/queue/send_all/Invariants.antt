use Rattle.std.proofs.Common.{◌≡◌}
use Rattle.input_relay.specs.Ends.{relay_of}
use Rattle.input_relay_tests.proofs.queue.send_all.Given as goal

abbrev pub invariant-loop-key : goal.invariant-loop-key
invariant-loop-key g l = relay_of l.sender ≡ relay_of l.initial.sender

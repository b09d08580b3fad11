use Rattle.std.proofs.Common.{◌≡◌, All}
use Rattle.std.specs.Vec.Iter.{into_iter_items}
use Rattle.input_relay.specs.Ends.{host_of, relay_of}
use Rattle.run_tests.proofs.ends.ends.Given as goal

-- The senders that came back are of the taker's relay, and those that are still to come will be.
abbrev pub invariant-loop-place : goal.invariant-loop-place
invariant-loop-place g l = record {
  back : All (λ sender. relay_of sender ≡ host_of l.fn.running.taker) l.senders.items;
  left : All (λ place. relay_of place.promise.sender.value ≡ host_of l.fn.running.taker) (into_iter_items l.place-iterator);
}

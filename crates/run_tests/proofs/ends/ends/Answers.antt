-- Each place gives back the sender that it began with, which is of the taker's relay.
use Rattle.std.proofs.Common.{◌≡◌, ◌∙◌, ◌∷◌, arith, suc}
use Rattle.std.specs.Vec.Iter.{into_iter_items}
use Rattle.input_relay.specs.Ends.{host_of, relay_of}
use Rattle.shared_screen.proofs.Every.{all_snoc}
use Rattle.run_tests.proofs.ends.ends.Goals as goal

pub loop-place-init : goal.loop-place-init
loop-place-init g c = record {
  back = rw c.new-senders.ensures.items (λ k d lt. absurd (omega (arith, lt)));
  left = (let gives = c.into_iter-place-iterator.ensures.into_iter_gives in rw gives.0 c.requires.relay);
}

pub loop-place-preserved : goal.loop-place-preserved
loop-place-preserved g c =
    let steps : into_iter_items c.loop-place.place-iterator ≡ c.in-Some.place ∷ into_iter_items c.next.new.self = c.in-Some.ensures.steps.0 in
    let all = rw steps at c.loop-place.invariant.left in
    let one : relay_of c.join_place-watcher.result.sender ≡ host_of c.args.running.taker = c.join_place-watcher.ensures.sender.0 ∙ all 0 c.in-Some.place (omega arith) in
    record {
      back = rw c.in_ok-push.ensures.items (all_snoc (λ sender. relay_of sender ≡ host_of c.args.running.taker) c.loop-place.senders.items c.join_place-watcher.result.sender c.loop-place.invariant.back one);
      left = λ k d lt. all (suc k) d (omega (arith, lt));
    }

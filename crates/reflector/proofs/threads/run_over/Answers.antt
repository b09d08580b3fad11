-- The places that were started give back the relay's senders.
use Rattle.std.proofs.Common.{◌≡◌, ◌∙◌, ap, vec_len}
use Rattle.input_relay.specs.Ends.{fresh, host_of, relay_of, strand_of, taken_of}
use Rattle.reflector.proofs.Places.{all_of_senders, of_senders}
use Rattle.reflector.proofs.Telling.{tells_hosts}
use Rattle.reflector.proofs.threads.run_over.Goals as goal

pub returns-in-Ok-clause-places : goal.returns-in-Ok-clause-places
returns-in-Ok-clause-places g c =
    let count : fresh c.len.result ≡ fresh (vec_len c.args.doors) = cc in
    rw c.end_all.ensures.places (of_senders strand_of _ _ _ _ c.in-Ok.ensures.places (c.in_ok-relay.ensures.places ∙ count))

pub returns-in-Ok-clause-relay : goal.returns-in-Ok-clause-relay
returns-in-Ok-clause-relay g c =
    rw (c.end_all.ensures.places, c.end_all.ensures.taker, c.in-Ok.ensures.writer.0) (all_of_senders (λ s. relay_of s ≡ host_of c.in_ok-relay.relay.taker) _ _ _ c.in-Ok.ensures.places c.in_ok-relay.ensures.one)

pub returns-in-Ok-clause-screen : goal.returns-in-Ok-clause-screen
returns-in-Ok-clause-screen g c = rw c.end_all.ensures.places c.in-Ok.ensures.screen

pub returns-in-Ok-clause-told : goal.returns-in-Ok-clause-told
returns-in-Ok-clause-told g c =
    let writer = c.in-Ok.ensures.writer in
    (c.in-Ok.started.writer.promise.source.value, writer.1, tells_hosts _ _ _ _ _ _ _ _ _ (ap (λ t. taken_of t) writer.0 ∙ c.in_ok-relay.ensures.taken) writer.2 c.end_all.ensures.told)

-- The places have watchers that know nothing yet: all but the first, which the hosts' writer has.
use Rattle.std.proofs.Common.{◌≡◌, ◌∙◌, ◌<◌, ap, arith, length}
use Rattle.reflect_core.specs.Sequential.{nothing_put}
use Rattle.reflector.specs.Visits.{name_of}
use Rattle.reflector.proofs.InTurn.{in_turn}
use Rattle.reflector.proofs.Telling.{tells_from}
use Rattle.reflector.proofs.Places.{all_but_first, all_of_senders}
use Rattle.reflector.proofs.run.run_all.Goals as goal

pub returns-clause-places : goal.returns-clause-places
returns-clause-places g c = rw c.shown.ensures.places c.in_ok-left.ensures.places

pub returns-clause-doors : goal.returns-clause-doors
returns-clause-doors g c = rw c.shown.ensures.places c.in_ok-left.ensures.doors

pub returns-clause-relay : goal.returns-clause-relay
returns-clause-relay g c = rw (c.shown.ensures.places, c.shown.ensures.taker) c.in_ok-left.ensures.relay

pub returns-clause-screen : goal.returns-clause-screen
returns-clause-screen g c =
    let told = c.screen_of.ensures in
    rw c.shown.ensures.places
    (λ k d inside. let it = c.in_ok-left.ensures.screen k d inside in (it.0 ∙ told.size.0, it.1 ∙ told.size.1, it.2 ∙ ap name_of told.name, it.3, it.4 ∙ c.size_of-first.ensures))

pub returns-clause-watchers : goal.returns-clause-watchers
returns-clause-watchers g c =
    rw c.shown.ensures.places
    (all_of_senders (λ w. w ≡ nothing_put) _ c.in_ok-left.left.places.items _ c.in_ok-left.ensures.watchers (all_but_first (λ w. w ≡ nothing_put) _ c.in_ok-publisher.ensures.watchers))

-- And that one began with nothing known.
pub returns-clause-told : goal.returns-clause-told
returns-clause-told g c =
    let some : 0 < length c.in_ok-publisher.watchers.items = omega (arith, c.in_ok-publisher.ensures.count, c.in_ok-publisher.watchers.ok.0) in
    let k = c.in_ok-left.ensures.told in
    rw (c.shown.ensures.told_links, c.shown.ensures.taker, c.shown.ensures.strokes) (tells_from _ _ _ _ nothing_put k.0 _ _ _ c.in_ok-publisher.ensures.watchers some k.1 k.2)

-- So each was told a beginning of what is said, and the strokes stand for all of it.
pub returns-clause-in_turn : goal.returns-clause-in_turn
returns-clause-in_turn g c = (in_turn _ _ _ _ _ _ _ (returns-clause-told g c)).0

pub returns-clause-strokes : goal.returns-clause-strokes
returns-clause-strokes g c = (in_turn _ _ _ _ _ _ _ (returns-clause-told g c)).1

-- What shows that the run was run says what the threads left.
pub returns-clause-ran : goal.returns-clause-ran
returns-clause-ran g c =
    rw (c.shown.ensures.last, c.shown.ensures.links, c.shown.ensures.told_links, c.shown.ensures.taker, c.shown.ensures.publisher, ← c.of.ensures, ← c.of-2.ensures, ← c.of-3.ensures) c.shown.ensures.ran

use Rattle.std.proofs.Common.{ap, refl, ◌∙◌, length}
use Rattle.host_writer.proofs.Writers.{asked_once, open_at, open_more, telling_begins, telling_ends, telling_stops, told_input}
use Rattle.host_writer.proofs.run.run_writer.Goals as goal

pub loop-init : goal.loop-init
loop-init g c = (
  tt,
  tt,
  record {
    idle = rw c.requires.begins.0 refl;
    whole = c.requires.whole;
    relay = refl;
    places = refl;
    counted = λ k. k;
    is_open = (refl, refl);
    telling = rw (c.requires.begins.0, c.requires.begins.1) (telling_begins _ _ _ _ _ _ _);
    first = refl;
  },
)

pub returns-then-is_set-clause-tells : goal.returns-then-is_set-clause-tells
returns-then-is_set-clause-tells g c =
    telling_ends _ _ _ _ _ _ _ _ _ _ _ (g.L.Link.state c.args.telling.now.link) (g.L.Link.state c.loop.telling.link) (c.is_set.ensures c.if-is_set.true) c.loop.invariant.2.telling c.loop.invariant.2.is_open

pub returns-in-Err-clause-tells : goal.returns-in-Err-clause-tells
returns-in-Err-clause-tells g c =
    let inv = c.loop.invariant.2 in
    let told = told_input g.S.ScreenSource.looks _ _ _ _ _ _ _ _ _ _ _ _ _ _ _ c.take_input-was_taken.result _ _ _ (g.L.Link.state c.args.telling.now.link) (g.L.Link.state c.loop.telling.link) (g.L.Link.state c.take_input-was_taken.new.self.link) (g.L.Link.state c.give_out.new.telling.link) inv.telling inv.idle c.take_input-was_taken.ensures.takes c.give_out.ensures.gives (ap g.L.Link.state c.take_input-was_taken.ensures.others.0)
    (c.give_out.ensures.others.0 ∙ c.take_input-was_taken.ensures.others.1) (ap g.K.InputSource.taken c.give_out.ensures.others.1) (c.give_out.ensures.others.2) (c.give_out.ensures.others.5 ∙ c.take_input-was_taken.ensures.others.3) in
    let since = open_at (g.L.Link.state c.args.telling.now.link) (g.L.Link.state c.loop.telling.link) (g.L.Link.state c.take_input-was_taken.new.self.link) (ap g.L.Link.state c.take_input-was_taken.ensures.others.0) inv.is_open in
    rw c.answer_at.ensures (telling_stops g.S.ScreenSource.looks _ _ _ _ _ _ _ _ _ _ c.in-Err.halt (g.L.Link.state c.args.telling.now.link) (g.L.Link.state c.take_input-was_taken.new.self.link) (g.L.Link.state c.give_out.new.telling.link) told since c.in-Err.ensures.stops)

pub returns-in-Err-clause-relay : goal.returns-in-Err-clause-relay
returns-in-Err-clause-relay g c =
    ap g.K.InputSource.relay (c.give_out.ensures.others.1) ∙ (c.take_input-was_taken.ensures.relay ∙ c.loop.invariant.2.relay)

pub returns-in-Err-clause-places : goal.returns-in-Err-clause-places
returns-in-Err-clause-places g c =
    ap (λ r. length r.counts) (c.give_out.ensures.others.2) ∙ (c.take_input-was_taken.ensures.places ∙ c.loop.invariant.2.places)

pub returns-in-Err-clause-counted : goal.returns-in-Err-clause-counted
returns-in-Err-clause-counted g c =
    λ k. rw (c.give_out.ensures.others.1, c.give_out.ensures.others.2, c.give_out.ensures.others.3) (c.take_input-was_taken.ensures.counted (c.loop.invariant.2.counted k))

pub returns-in-Err-clause-first : goal.returns-in-Err-clause-first
returns-in-Err-clause-first g c =
    c.give_out.ensures.others.6 ∙ (c.take_input-was_taken.ensures.others.4 ∙ c.loop.invariant.2.first)

pub returns-in-Err-give_out-clause-tells : goal.returns-in-Err-give_out-clause-tells
returns-in-Err-give_out-clause-tells g c =
    let inv = c.loop.invariant.2 in
    let told = told_input g.S.ScreenSource.looks _ _ _ _ _ _ _ _ _ _ _ _ _ _ _ c.take_input-was_taken.result _ _ _ (g.L.Link.state c.args.telling.now.link) (g.L.Link.state c.loop.telling.link) (g.L.Link.state c.take_input-was_taken.new.self.link) (g.L.Link.state c.give_out.new.telling.link) inv.telling inv.idle c.take_input-was_taken.ensures.takes c.give_out.ensures.gives (ap g.L.Link.state c.take_input-was_taken.ensures.others.0)
    (c.give_out.ensures.others.0 ∙ c.take_input-was_taken.ensures.others.1) (ap g.K.InputSource.taken c.give_out.ensures.others.1) (c.give_out.ensures.others.2) (c.give_out.ensures.others.5 ∙ c.take_input-was_taken.ensures.others.3) in
    let since = open_at (g.L.Link.state c.args.telling.now.link) (g.L.Link.state c.loop.telling.link) (g.L.Link.state c.take_input-was_taken.new.self.link) (ap g.L.Link.state c.take_input-was_taken.ensures.others.0) inv.is_open in
    let on = open_more (g.L.Link.state c.args.telling.now.link) (g.L.Link.state c.take_input-was_taken.new.self.link) (g.L.Link.state c.give_out.new.telling.link) since c.in_default.ensures.stops.0 in
    let asked = asked_once g.S.ScreenSource.looks _ _ _ _ _ _ _ _ _ _ _ _ _ _ _ _ _ _ _ (g.L.Link.state c.args.telling.now.link) (g.L.Link.state c.give_out.new.telling.link) (g.L.Link.state c.look-has_risen.new.self.link) (g.L.Link.state c.give_out-in-loop.new.telling.link) told c.in_default.ensures.stops.1 (c.give_out.ensures.others.4 ∙ (c.take_input-was_taken.ensures.others.2 ∙ inv.whole)) c.look-has_risen.ensures.looks c.give_out-in-loop.ensures.gives (ap g.L.Link.state c.look-has_risen.ensures.others.0)
    (c.give_out-in-loop.ensures.others.0) (ap g.K.InputSource.taken (c.give_out-in-loop.ensures.others.1 ∙ c.look-has_risen.ensures.others.1)) (c.give_out-in-loop.ensures.others.2 ∙ c.look-has_risen.ensures.others.2) c.give_out-in-loop.ensures.others.5 in
    let later = open_at (g.L.Link.state c.args.telling.now.link) (g.L.Link.state c.give_out.new.telling.link) (g.L.Link.state c.look-has_risen.new.self.link) (ap g.L.Link.state c.look-has_risen.ensures.others.0) on in
    rw c.answer_at-in-Err-give_out.ensures (telling_stops g.S.ScreenSource.looks _ _ _ _ _ _ _ _ _ _ c.in-Err-give_out.halt (g.L.Link.state c.args.telling.now.link) (g.L.Link.state c.look-has_risen.new.self.link) (g.L.Link.state c.give_out-in-loop.new.telling.link) asked later c.in-Err-give_out.ensures.stops)

pub returns-in-Err-give_out-clause-relay : goal.returns-in-Err-give_out-clause-relay
returns-in-Err-give_out-clause-relay g c =
    ap g.K.InputSource.relay (c.give_out-in-loop.ensures.others.1 ∙ (c.look-has_risen.ensures.others.1 ∙ c.give_out.ensures.others.1)) ∙ (c.take_input-was_taken.ensures.relay ∙ c.loop.invariant.2.relay)

pub returns-in-Err-give_out-clause-places : goal.returns-in-Err-give_out-clause-places
returns-in-Err-give_out-clause-places g c =
    ap (λ r. length r.counts) (c.give_out-in-loop.ensures.others.2 ∙ (c.look-has_risen.ensures.others.2 ∙ c.give_out.ensures.others.2)) ∙ (c.take_input-was_taken.ensures.places ∙ c.loop.invariant.2.places)

pub returns-in-Err-give_out-clause-counted : goal.returns-in-Err-give_out-clause-counted
returns-in-Err-give_out-clause-counted g c =
    λ k. rw (c.give_out-in-loop.ensures.others.1 ∙ (c.look-has_risen.ensures.others.1 ∙ c.give_out.ensures.others.1), c.give_out-in-loop.ensures.others.2 ∙ (c.look-has_risen.ensures.others.2 ∙ c.give_out.ensures.others.2), c.give_out-in-loop.ensures.others.3 ∙ (c.look-has_risen.ensures.others.3 ∙ c.give_out.ensures.others.3)) (c.take_input-was_taken.ensures.counted (c.loop.invariant.2.counted k))

pub returns-in-Err-give_out-clause-first : goal.returns-in-Err-give_out-clause-first
returns-in-Err-give_out-clause-first g c =
    c.give_out-in-loop.ensures.others.6 ∙ (c.look-has_risen.ensures.others.5 ∙ (c.give_out.ensures.others.6 ∙ (c.take_input-was_taken.ensures.others.4 ∙ c.loop.invariant.2.first)))

pub loop-preserved : goal.loop-preserved
loop-preserved g c =
    let inv = c.loop.invariant.2 in
    let told = told_input g.S.ScreenSource.looks _ _ _ _ _ _ _ _ _ _ _ _ _ _ _ c.take_input-was_taken.result _ _ _ (g.L.Link.state c.args.telling.now.link) (g.L.Link.state c.loop.telling.link) (g.L.Link.state c.take_input-was_taken.new.self.link) (g.L.Link.state c.give_out.new.telling.link) inv.telling inv.idle c.take_input-was_taken.ensures.takes c.give_out.ensures.gives (ap g.L.Link.state c.take_input-was_taken.ensures.others.0)
    (c.give_out.ensures.others.0 ∙ c.take_input-was_taken.ensures.others.1) (ap g.K.InputSource.taken c.give_out.ensures.others.1) (c.give_out.ensures.others.2) (c.give_out.ensures.others.5 ∙ c.take_input-was_taken.ensures.others.3) in
    let since = open_at (g.L.Link.state c.args.telling.now.link) (g.L.Link.state c.loop.telling.link) (g.L.Link.state c.take_input-was_taken.new.self.link) (ap g.L.Link.state c.take_input-was_taken.ensures.others.0) inv.is_open in
    let on = open_more (g.L.Link.state c.args.telling.now.link) (g.L.Link.state c.take_input-was_taken.new.self.link) (g.L.Link.state c.give_out.new.telling.link) since c.in_default.ensures.stops.0 in
    let asked = asked_once g.S.ScreenSource.looks _ _ _ _ _ _ _ _ _ _ _ _ _ _ _ _ _ _ _ (g.L.Link.state c.args.telling.now.link) (g.L.Link.state c.give_out.new.telling.link) (g.L.Link.state c.look-has_risen.new.self.link) (g.L.Link.state c.give_out-in-loop.new.telling.link) told c.in_default.ensures.stops.1 (c.give_out.ensures.others.4 ∙ (c.take_input-was_taken.ensures.others.2 ∙ inv.whole)) c.look-has_risen.ensures.looks c.give_out-in-loop.ensures.gives (ap g.L.Link.state c.look-has_risen.ensures.others.0)
    (c.give_out-in-loop.ensures.others.0) (ap g.K.InputSource.taken (c.give_out-in-loop.ensures.others.1 ∙ c.look-has_risen.ensures.others.1)) (c.give_out-in-loop.ensures.others.2 ∙ c.look-has_risen.ensures.others.2) c.give_out-in-loop.ensures.others.5 in
    let later = open_at (g.L.Link.state c.args.telling.now.link) (g.L.Link.state c.give_out.new.telling.link) (g.L.Link.state c.look-has_risen.new.self.link) (ap g.L.Link.state c.look-has_risen.ensures.others.0) on in (
      tt,
      tt,
      record {
        idle = c.in_default-give_out.ensures.stops.1;
        whole = c.give_out-in-loop.ensures.others.4 ∙ (c.look-has_risen.ensures.others.4 ∙ (c.give_out.ensures.others.4 ∙ (c.take_input-was_taken.ensures.others.2 ∙ inv.whole)));
        relay = ap g.K.InputSource.relay (c.give_out-in-loop.ensures.others.1 ∙ (c.look-has_risen.ensures.others.1 ∙ c.give_out.ensures.others.1)) ∙ (c.take_input-was_taken.ensures.relay ∙ c.loop.invariant.2.relay);
        places = ap (λ r. length r.counts) (c.give_out-in-loop.ensures.others.2 ∙ (c.look-has_risen.ensures.others.2 ∙ c.give_out.ensures.others.2)) ∙ (c.take_input-was_taken.ensures.places ∙ c.loop.invariant.2.places);
        counted = λ k. rw (c.give_out-in-loop.ensures.others.1 ∙ (c.look-has_risen.ensures.others.1 ∙ c.give_out.ensures.others.1), c.give_out-in-loop.ensures.others.2 ∙ (c.look-has_risen.ensures.others.2 ∙ c.give_out.ensures.others.2), c.give_out-in-loop.ensures.others.3 ∙ (c.look-has_risen.ensures.others.3 ∙ c.give_out.ensures.others.3)) (c.take_input-was_taken.ensures.counted (c.loop.invariant.2.counted k));
        is_open = open_more (g.L.Link.state c.args.telling.now.link) (g.L.Link.state c.look-has_risen.new.self.link) (g.L.Link.state c.give_out-in-loop.new.telling.link) later c.in_default-give_out.ensures.stops.0;
        telling = asked;
        first = c.give_out-in-loop.ensures.others.6 ∙ (c.look-has_risen.ensures.others.5 ∙ (c.give_out.ensures.others.6 ∙ (c.take_input-was_taken.ensures.others.4 ∙ c.loop.invariant.2.first)));
      },
    )

pub loop-preserved-then-not-has_risen : goal.loop-preserved-then-not-has_risen
loop-preserved-then-not-has_risen g c =
    let inv = c.loop.invariant.2 in
    let told = told_input g.S.ScreenSource.looks _ _ _ _ _ _ _ _ _ _ _ _ _ _ _ c.take_input-was_taken.result _ _ _ (g.L.Link.state c.args.telling.now.link) (g.L.Link.state c.loop.telling.link) (g.L.Link.state c.take_input-was_taken.new.self.link) (g.L.Link.state c.give_out.new.telling.link) inv.telling inv.idle c.take_input-was_taken.ensures.takes c.give_out.ensures.gives (ap g.L.Link.state c.take_input-was_taken.ensures.others.0)
    (c.give_out.ensures.others.0 ∙ c.take_input-was_taken.ensures.others.1) (ap g.K.InputSource.taken c.give_out.ensures.others.1) (c.give_out.ensures.others.2) (c.give_out.ensures.others.5 ∙ c.take_input-was_taken.ensures.others.3) in
    let since = open_at (g.L.Link.state c.args.telling.now.link) (g.L.Link.state c.loop.telling.link) (g.L.Link.state c.take_input-was_taken.new.self.link) (ap g.L.Link.state c.take_input-was_taken.ensures.others.0) inv.is_open in
    let on = open_more (g.L.Link.state c.args.telling.now.link) (g.L.Link.state c.take_input-was_taken.new.self.link) (g.L.Link.state c.give_out.new.telling.link) since c.in_default.ensures.stops.0 in
    let asked = asked_once g.S.ScreenSource.looks _ _ _ _ _ _ _ _ _ _ _ _ _ _ _ _ _ _ _ (g.L.Link.state c.args.telling.now.link) (g.L.Link.state c.give_out.new.telling.link) (g.L.Link.state c.look-has_risen.new.self.link) (g.L.Link.state c.give_out-in-loop.new.telling.link) told c.in_default.ensures.stops.1 (c.give_out.ensures.others.4 ∙ (c.take_input-was_taken.ensures.others.2 ∙ inv.whole)) c.look-has_risen.ensures.looks c.give_out-in-loop.ensures.gives (ap g.L.Link.state c.look-has_risen.ensures.others.0)
    (c.give_out-in-loop.ensures.others.0) (ap g.K.InputSource.taken (c.give_out-in-loop.ensures.others.1 ∙ c.look-has_risen.ensures.others.1)) (c.give_out-in-loop.ensures.others.2 ∙ c.look-has_risen.ensures.others.2) c.give_out-in-loop.ensures.others.5 in
    let later = open_at (g.L.Link.state c.args.telling.now.link) (g.L.Link.state c.give_out.new.telling.link) (g.L.Link.state c.look-has_risen.new.self.link) (ap g.L.Link.state c.look-has_risen.ensures.others.0) on in (
      tt,
      tt,
      record {
        idle = c.in_default-give_out.ensures.stops.1;
        whole = c.give_out-in-loop.ensures.others.4 ∙ (c.look-has_risen.ensures.others.4 ∙ (c.give_out.ensures.others.4 ∙ (c.take_input-was_taken.ensures.others.2 ∙ inv.whole)));
        relay = ap g.K.InputSource.relay (c.give_out-in-loop.ensures.others.1 ∙ (c.look-has_risen.ensures.others.1 ∙ c.give_out.ensures.others.1)) ∙ (c.take_input-was_taken.ensures.relay ∙ c.loop.invariant.2.relay);
        places = ap (λ r. length r.counts) (c.give_out-in-loop.ensures.others.2 ∙ (c.look-has_risen.ensures.others.2 ∙ c.give_out.ensures.others.2)) ∙ (c.take_input-was_taken.ensures.places ∙ c.loop.invariant.2.places);
        counted = λ k. rw (c.give_out-in-loop.ensures.others.1 ∙ (c.look-has_risen.ensures.others.1 ∙ c.give_out.ensures.others.1), c.give_out-in-loop.ensures.others.2 ∙ (c.look-has_risen.ensures.others.2 ∙ c.give_out.ensures.others.2), c.give_out-in-loop.ensures.others.3 ∙ (c.look-has_risen.ensures.others.3 ∙ c.give_out.ensures.others.3)) (c.take_input-was_taken.ensures.counted (c.loop.invariant.2.counted k));
        is_open = open_more (g.L.Link.state c.args.telling.now.link) (g.L.Link.state c.look-has_risen.new.self.link) (g.L.Link.state c.give_out-in-loop.new.telling.link) later c.in_default-give_out.ensures.stops.0;
        telling = asked;
        first = c.give_out-in-loop.ensures.others.6 ∙ (c.look-has_risen.ensures.others.5 ∙ (c.give_out.ensures.others.6 ∙ (c.take_input-was_taken.ensures.others.4 ∙ c.loop.invariant.2.first)));
      },
    )

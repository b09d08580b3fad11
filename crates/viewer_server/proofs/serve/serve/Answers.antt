use Rattle.std.proofs.Common.{◌≡◌, ◌<◌, ◌⊎◌, true, false, length, inl, inr, refl, sym, ap, subst, ◌∙◌, true≢false}
use Rattle.std.specs.Prelude.{is_some}
use Rattle.std.proofs.lemmas.Result.{err_from_is_err_and}
use Rattle.link.specs.Links.{LinkState}
use Rattle.reflect_core.specs.Sequential.{Begins}
use Rattle.viewer_session.proofs.Parts.{begins_same, begins_on}
use Rattle.viewer_server.specs.Steps.{Unpassed, WaitsIfLeft}
use Rattle.viewer_server.proofs.Servings.{served_stop, served_relay, served_gone, served_halt, served_hear, served_end, was_offered, waits_after, box_clear}
use Rattle.viewer_server.proofs.Visited.{anew, visited_begins}
use Rattle.viewer_server.proofs.serve.serve.Goals as goal
use Rattle.viewer_server.proofs.serve.serve.Goals.{then-is_offered-via-then-is_offered, then-is_offered-via-else-is_offered+then-has_unsent, else-not-is_full-via-then-not-is_full+else-waits, else-not-is_full-via-else-not-is_full}

pub loop-init : goal.loop-init
loop-init g c = (
  tt,
  tt,
  record {
    served = c.requires.served;
    first = refl;
    left = inl (ap (λ (i : Unpassed). i.unread) c.requires.empty);
    grows = begins_same _;
    failed = refl;
    ended = refl;
    serving = λ s role greet k. visited_begins g.S.ScreenSource.looks g.S.ScreenSource.cuts c.args.visit.now.source _ _ s role greet _ _ _ _ c.requires.uncut c.requires.empty k;
  },
)

pub returns-then-is_set-clause-serves : goal.returns-then-is_set-clause-serves
returns-then-is_set-clause-serves g c = λ s role greet k.
    let inv = c.loop.invariant.2 in
    served_stop g.S.ScreenSource.looks g.S.ScreenSource.cuts g.S.ScreenSource.may_end _ g.K.InputSink.may_refuse _ _ _ _ s _ _ _ _ _ _ _ _ (inv.serving s role greet k).1 inv.left (c.is_set.ensures c.if-is_set.true) inv.failed inv.ended

pub returns-in_err-is_full-clause-serves : goal.returns-in_err-is_full-clause-serves
returns-in_err-is_full-clause-serves g c = λ s role greet k.
    let inv = c.loop.invariant.2 in
    let p = err_from_is_err_and c.from_residual.result c.from_residual.ensures.1 in
    rw (p.1, p.2, c.relay.ensures.others.1, c.relay.ensures.others.0)
    (served_relay g.S.ScreenSource.looks g.S.ScreenSource.cuts g.S.ScreenSource.may_end _ g.K.InputSink.may_refuse _ _ _ _ s _ _ _ _ _ _ _ _ _ _ _ (inv.serving s role greet k).1 c.relay.ensures.left c.relay.ensures.same c.in_err-is_full.ensures.goes_on)

pub returns-in_err-is_offered-clause-serves : goal.returns-in_err-is_offered-clause-serves
returns-in_err-is_offered-clause-serves g c = λ s role greet k.
    let inv = c.loop.invariant.2 in
    let p = err_from_is_err_and c.from_residual-in_err-is_offered.result c.from_residual-in_err-is_offered.ensures.1 in
    let rel = c.relay.ensures.keeps _ s _ _ _ (inv.serving s role greet k) in
    rw (p.1, p.2, c.offer.ensures.others.0, c.offer.ensures.others.1, c.offer.ensures.others.2)
    (served_gone g.S.ScreenSource.looks g.S.ScreenSource.cuts g.S.ScreenSource.may_end _ g.K.InputSink.may_refuse _ _ _ _ _ _ 0 0 s _ _ _ _ _ _ _ _ _ _ rel.1 c.relay.ensures.left c.offer.ensures.grows c.in_err-is_offered.ensures.offers)

pub returns-in_err-say-clause-serves : goal.returns-in_err-say-clause-serves
returns-in_err-say-clause-serves g c = λ s role greet k.
    let inv = c.loop.invariant.2 in
    let p = err_from_is_err_and c.from_residual-in_err-say.result c.from_residual-in_err-say.ensures.1 in
    let rel = c.relay.ensures.keeps _ s _ _ _ (inv.serving s role greet k) in
    let off = c.in_ok-is_offered.ensures.keeps _ s _ _ _ rel in
    let sd = c.say.ensures.keeps _ s _ _ _ c.in_ok-is_offered.is_offered off in
    rw (p.1, p.2)
    (served_halt g.S.ScreenSource.looks g.S.ScreenSource.cuts g.S.ScreenSource.may_end _ g.K.InputSink.may_refuse _ _ _ _ s _ _ _ _ _ _ _ _ (g.L.Link.state c.offer.new.self.link) _ sd.1 sd.0 (ap (λ v. (g.L.Link.state v).failed) (c.offer.ensures.others.0 ∙ c.relay.ensures.others.0) ∙ inv.failed) (ap (λ v. (g.L.Link.state v).ended) (c.offer.ensures.others.0 ∙ c.relay.ensures.others.0) ∙ inv.ended) c.in_err-say.ensures.why)

-- Another input waits: it is passed on in the next round.
pub loop-preserved-then-waits : goal.loop-preserved-then-waits
loop-preserved-then-waits g c =
    let inv = c.loop.invariant.2 in (
      tt,
      tt,
      record {
        served = c.relay.ensures.others.2;
        first = c.relay.ensures.others.3 ∙ inv.first;
        left = c.relay.ensures.left;
        grows = rw c.relay.ensures.others.1 inv.grows;
        failed = rw c.relay.ensures.others.0 inv.failed;
        ended = rw c.relay.ensures.others.0 inv.ended;
        serving = λ s role greet k. c.relay.ensures.keeps _ s _ _ _ (inv.serving s role greet k);
      },
    )

pub loop-preserved-then-is_full : goal.loop-preserved-then-is_full
loop-preserved-then-is_full g c =
    let inv = c.loop.invariant.2 in (
      tt,
      tt,
      record {
        served = c.flush.ensures.others.4 ∙ c.say.ensures.others.3;
        first = c.flush.ensures.others.5 ∙ (c.say.ensures.others.4 ∙ (c.offer.ensures.others.3 ∙ (c.relay.ensures.others.3 ∙ inv.first)));
        left = subst (λ (i : Unpassed). WaitsIfLeft i) (sym (c.flush.ensures.others.3 ∙ (c.say.ensures.others.2 ∙ c.offer.ensures.others.2))) c.relay.ensures.left;
        grows = rw c.flush.ensures.others.0 (rw c.say.ensures.others.0 (begins_on _ _ _ inv.grows (rw (← c.relay.ensures.others.1) c.offer.ensures.grows)));
        failed = ap (λ (l : LinkState). l.failed) c.flush.ensures.link ∙ (c.in_ok-say.ensures.why.0 ∙ (ap (λ v. (g.L.Link.state v).failed) (c.offer.ensures.others.0 ∙ c.relay.ensures.others.0) ∙ inv.failed));
        ended = ap (λ (l : LinkState). l.ended) c.flush.ensures.link ∙ (c.in_ok-say.ensures.why.1 ∙ (ap (λ v. (g.L.Link.state v).ended) (c.offer.ensures.others.0 ∙ c.relay.ensures.others.0) ∙ inv.ended));
        serving = λ s role greet k.
            let rel = c.relay.ensures.keeps _ s _ _ _ (inv.serving s role greet k) in
            let off = c.in_ok-is_offered.ensures.keeps _ s _ _ _ rel in
            let sd = c.say.ensures.keeps _ s _ _ _ c.in_ok-is_offered.is_offered off in
            anew g.S.ScreenSource.looks g.S.ScreenSource.cuts _ s _ _ _ _ _ _ _ _ _ c.in_ok-is_offered.is_offered _ (c.flush.ensures.keeps _ s _ _ _ _ sd);
      },
    )

pub returns-in_err-goes_on-clause-serves : goal.returns-in_err-goes_on-clause-serves
returns-in_err-goes_on-clause-serves g c = λ s role greet k.
    let inv = c.loop.invariant.2 in
    let none : is_some c.say.new.self.inbox.waiting ≡ false = ap (λ (i : Unpassed). is_some i.waiting) (c.say.ensures.others.2 ∙ c.offer.ensures.others.2) ∙
    elim c.else-not-is_full.branch [
      | else-not-is_full-via-then-not-is_full+else-waits w ↦ sym w.waits.ensures ∙ w.if-waits.false
      | else-not-is_full-via-else-not-is_full w ↦ absurd (true≢false (sym w.if-not-is_full.false ∙ c.if-is_full.false))
    ] in
    let p = err_from_is_err_and c.from_residual-in_err-goes_on.result c.from_residual-in_err-goes_on.ensures.1 in
    let rel = c.relay.ensures.keeps _ s _ _ _ (inv.serving s role greet k) in
    let off = c.in_ok-is_offered.ensures.keeps _ s _ _ _ rel in
    let sd = c.say.ensures.keeps _ s _ _ _ c.in_ok-is_offered.is_offered off in
    rw (p.1, p.2, c.hear.ensures.others.0, c.hear.ensures.others.1)
    (served_hear g.S.ScreenSource.looks g.S.ScreenSource.cuts g.S.ScreenSource.may_end _ g.K.InputSink.may_refuse _ _ _ _ s _ _ _ _ _ _ _ c.in_ok-is_offered.is_offered _ _ (g.L.Link.state c.say.new.self.link) _ sd.1 (box_clear c.say.new.self.inbox none (subst (λ (i : Unpassed). WaitsIfLeft i) (sym (c.say.ensures.others.2 ∙ c.offer.ensures.others.2)) c.relay.ensures.left)) c.hear.ensures.same (c.in_ok-say.ensures.why.0 ∙ (ap (λ v. (g.L.Link.state v).failed) (c.offer.ensures.others.0 ∙ c.relay.ensures.others.0) ∙ inv.failed)) (c.in_ok-say.ensures.why.1 ∙ (ap (λ v. (g.L.Link.state v).ended) (c.offer.ensures.others.0 ∙ c.relay.ensures.others.0) ∙ inv.ended)) c.in_err-goes_on.ensures.hears)

pub returns-then-not-goes_on-clause-serves : goal.returns-then-not-goes_on-clause-serves
returns-then-not-goes_on-clause-serves g c = λ s role greet k.
    let inv = c.loop.invariant.2 in
    let none : is_some c.say.new.self.inbox.waiting ≡ false = ap (λ (i : Unpassed). is_some i.waiting) (c.say.ensures.others.2 ∙ c.offer.ensures.others.2) ∙
    elim c.else-not-is_full.branch [
      | else-not-is_full-via-then-not-is_full+else-waits w ↦ sym w.waits.ensures ∙ w.if-waits.false
      | else-not-is_full-via-else-not-is_full w ↦ absurd (true≢false (sym w.if-not-is_full.false ∙ c.if-is_full.false))
    ] in
    let rel = c.relay.ensures.keeps _ s _ _ _ (inv.serving s role greet k) in
    let off = c.in_ok-is_offered.ensures.keeps _ s _ _ _ rel in
    let sd = c.say.ensures.keeps _ s _ _ _ c.in_ok-is_offered.is_offered off in
    let h = rw c.if-not-goes_on.true at c.in_ok-goes_on.ensures.hears in
    let why : (c.in_ok-is_offered.is_offered ≡ true) ⊎ (0 < length c.say.new.self.session.unsent) =
    elim c.then-is_offered.branch [
      | then-is_offered-via-then-is_offered w ↦ inl w.if-is_offered.true
      | then-is_offered-via-else-is_offered+then-has_unsent w ↦ inr (w.has_unsent.ensures.0 w.if-has_unsent.true)
    ] in
    let is = was_offered c.in_ok-is_offered.is_offered _ _ _ _ _ h why in
    rw (c.hear.ensures.others.0, c.hear.ensures.others.1)
    (served_end g.S.ScreenSource.looks g.S.ScreenSource.cuts g.S.ScreenSource.may_end _ g.K.InputSink.may_refuse _ _ _ _ s _ _ _ _ _ _ _ _ (g.L.Link.state c.say.new.self.link) _ (rw is at sd.1) (box_clear c.say.new.self.inbox none (subst (λ (i : Unpassed). WaitsIfLeft i) (sym (c.say.ensures.others.2 ∙ c.offer.ensures.others.2)) c.relay.ensures.left)) (c.in_ok-say.ensures.why.0 ∙ (ap (λ v. (g.L.Link.state v).failed) (c.offer.ensures.others.0 ∙ c.relay.ensures.others.0) ∙ inv.failed)) (c.in_ok-say.ensures.why.1 ∙ (ap (λ v. (g.L.Link.state v).ended) (c.offer.ensures.others.0 ∙ c.relay.ensures.others.0) ∙ inv.ended)) h)

pub loop-preserved-else-is_full : goal.loop-preserved-else-is_full
loop-preserved-else-is_full g c =
    let inv = c.loop.invariant.2 in
    let h = rw c.if-not-goes_on.false at c.in_ok-goes_on.ensures.hears in (
      tt,
      tt,
      record {
        served = c.hear.ensures.others.2;
        first = c.hear.ensures.others.3 ∙ (c.say.ensures.others.4 ∙ (c.offer.ensures.others.3 ∙ (c.relay.ensures.others.3 ∙ inv.first)));
        left = waits_after _ _ _ _ _ _ h;
        grows = rw c.hear.ensures.others.0 (rw c.say.ensures.others.0 (begins_on _ _ _ inv.grows (rw (← c.relay.ensures.others.1) c.offer.ensures.grows)));
        failed = h.so.0 ∙ (c.in_ok-say.ensures.why.0 ∙ (ap (λ v. (g.L.Link.state v).failed) (c.offer.ensures.others.0 ∙ c.relay.ensures.others.0) ∙ inv.failed));
        ended = h.so.1 ∙ (c.in_ok-say.ensures.why.1 ∙ (ap (λ v. (g.L.Link.state v).ended) (c.offer.ensures.others.0 ∙ c.relay.ensures.others.0) ∙ inv.ended));
        serving = λ s role greet k.
            let rel = c.relay.ensures.keeps _ s _ _ _ (inv.serving s role greet k) in
            let off = c.in_ok-is_offered.ensures.keeps _ s _ _ _ rel in
            let sd = c.say.ensures.keeps _ s _ _ _ c.in_ok-is_offered.is_offered off in
            c.hear.ensures.keeps _ s _ _ _ _ sd;
      },
    )

pub loop-preserved : goal.loop-preserved
loop-preserved g c =
    let inv = c.loop.invariant.2 in (
      tt,
      tt,
      record {
        served = c.say.ensures.others.3;
        first = c.say.ensures.others.4 ∙ (c.offer.ensures.others.3 ∙ (c.relay.ensures.others.3 ∙ inv.first));
        left = subst (λ (i : Unpassed). WaitsIfLeft i) (sym (c.say.ensures.others.2 ∙ c.offer.ensures.others.2)) c.relay.ensures.left;
        grows = (rw c.say.ensures.others.0 (begins_on _ _ _ inv.grows (rw (← c.relay.ensures.others.1) c.offer.ensures.grows)));
        failed = (c.in_ok-say.ensures.why.0 ∙ (ap (λ v. (g.L.Link.state v).failed) (c.offer.ensures.others.0 ∙ c.relay.ensures.others.0) ∙ inv.failed));
        ended = (c.in_ok-say.ensures.why.1 ∙ (ap (λ v. (g.L.Link.state v).ended) (c.offer.ensures.others.0 ∙ c.relay.ensures.others.0) ∙ inv.ended));
        serving = λ s role greet k.
            let rel = c.relay.ensures.keeps _ s _ _ _ (inv.serving s role greet k) in
            let off = c.in_ok-is_offered.ensures.keeps _ s _ _ _ rel in
            let sd = c.say.ensures.keeps _ s _ _ _ c.in_ok-is_offered.is_offered off in
            anew g.S.ScreenSource.looks g.S.ScreenSource.cuts _ s _ _ _ _ _ _ _ _ _ c.in_ok-is_offered.is_offered _ sd;
      },
    )

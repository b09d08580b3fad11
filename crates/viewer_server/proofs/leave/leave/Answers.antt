-- What is refused for good is the first that isn't in.
use Rattle.std.proofs.Common.{◌≡◌, false, List, ◌++◌, refl, sym, ◌∙◌}
use Rattle.std.proofs.lemmas.Result.{err_from_is_err_and}
use Rattle.roles.specs.Allowed.{Input}
use Rattle.roles.specs.Held.{left_in}
use Rattle.viewer_session.specs.Acts.{waiting_list}
use Rattle.viewer_server.proofs.Leaving.{IsLeaving, none_waits, leaving_begins, leaving_released, leaving_passed, leaves_refused}
use Rattle.viewer_server.proofs.leave.leave.Goals as goal
use Rattle.viewer_server.proofs.leave.leave.Goals.{else-not-waits-via-then-not-waits+else-not-release, else-not-waits-via-else-not-waits}

pub loop-init : goal.loop-init
loop-init g c = (tt, tt, record { served = c.requires; first = refl; link = refl; source = refl; leaving = leaving_begins _ _ })

pub loop-preserved : goal.loop-preserved
loop-preserved g c =
    let inv = c.loop.invariant.2 in
    let all : List Input = waiting_list c.args.visit.now.inbox.waiting ++ left_in c.args.visit.now.session.held in
    let v = c.else-not-waits.visit in
    let at : (v.is_served ≡ false) × (v.first ≡ c.args.visit.now.first) × (v.link ≡ c.args.visit.now.link) × (v.source ≡ c.args.visit.now.source)
    × IsLeaving (g.K.InputSink.sent c.args.visit.now.sink) (g.K.InputSink.sent v.sink) all (waiting_list v.inbox.waiting ++ left_in v.session.held) =
    elim c.else-not-waits.branch [
      | else-not-waits-via-then-not-waits+else-not-release w ↦ rw w.visit-is (
        w.release.ensures.others.3,
        w.release.ensures.others.4 ∙ inv.first,
        w.release.ensures.others.0 ∙ inv.link,
        w.release.ensures.others.1 ∙ inv.source,
        rw w.release.ensures.others.2 (leaving_released _ _ _ (left_in c.loop.visit.session.held) (waiting_list w.release.new.self.inbox.waiting) (left_in w.release.new.self.session.held) c.loop.visit.inbox.waiting inv.leaving
            (none_waits c.loop.visit.inbox.waiting (sym c.waits.ensures ∙ w.if-not-waits.true)) w.release.ensures.next),
      )
      | else-not-waits-via-else-not-waits w ↦ rw w.visit-is (inv.served, inv.first, inv.link, inv.source, inv.leaving)
    ] in (
      tt,
      tt,
      record {
        served = c.pass.ensures.others.3;
        first = c.pass.ensures.others.4 ∙ at.1;
        link = c.pass.ensures.others.0 ∙ at.2;
        source = c.pass.ensures.others.1 ∙ at.3;
        leaving = rw c.pass.ensures.others.2 (leaving_passed g.K.InputSink.may_refuse c.in_ok-is_full.is_full _ _ _ _ _ _ _ at.4 c.in_ok-is_full.ensures.passes);
      },
    )

pub returns-in_err-is_full : goal.returns-in_err-is_full
returns-in_err-is_full g c =
    let p = err_from_is_err_and c.from_residual.result c.from_residual.ensures.1 in
    let inv = c.loop.invariant.2 in
    let all : List Input = waiting_list c.args.visit.now.inbox.waiting ++ left_in c.args.visit.now.session.held in
    let v = c.else-not-waits.visit in
    let at : (v.is_served ≡ false) × (v.first ≡ c.args.visit.now.first) × (v.link ≡ c.args.visit.now.link) × (v.source ≡ c.args.visit.now.source)
    × IsLeaving (g.K.InputSink.sent c.args.visit.now.sink) (g.K.InputSink.sent v.sink) all (waiting_list v.inbox.waiting ++ left_in v.session.held) =
    elim c.else-not-waits.branch [
      | else-not-waits-via-then-not-waits+else-not-release w ↦ rw w.visit-is (
        w.release.ensures.others.3,
        w.release.ensures.others.4 ∙ inv.first,
        w.release.ensures.others.0 ∙ inv.link,
        w.release.ensures.others.1 ∙ inv.source,
        rw w.release.ensures.others.2 (leaving_released _ _ _ (left_in c.loop.visit.session.held) (waiting_list w.release.new.self.inbox.waiting) (left_in w.release.new.self.session.held) c.loop.visit.inbox.waiting inv.leaving
            (none_waits c.loop.visit.inbox.waiting (sym c.waits.ensures ∙ w.if-not-waits.true)) w.release.ensures.next),
      )
      | else-not-waits-via-else-not-waits w ↦ rw w.visit-is (inv.served, inv.first, inv.link, inv.source, inv.leaving)
    ] in
    record {
      first = c.pass.ensures.others.4 ∙ at.1;
      link = c.pass.ensures.others.0 ∙ at.2;
      source = c.pass.ensures.others.1 ∙ at.3;
      leaves = rw (p.1, p.2) (leaves_refused _ _ _ _ _ _ _ _ _ _ at.4 c.in_err-is_full.ensures.passes);
    }

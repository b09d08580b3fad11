use Rattle.std.proofs.Common.{◌≡◌, Bool, true, false}
use Rattle.reflect_core.specs.Sequential.{Begins}
use Rattle.roles.specs.declared.role.Role.{Role}
use Rattle.viewer_session.specs.Session.{Stands}
use Rattle.viewer_session.specs.Viewer.{Setup, new_viewer}
use Rattle.viewer_server.specs.Moment.{IsUnderWay}
use Rattle.viewer_server.specs.Steps.{WaitsIfLeft}
use Rattle.viewer_server.proofs.serve.serve.Given as goal

abbrev pub invariant-loop : goal.invariant-loop
invariant-loop g l =
    (goal.iterator-loop g).can_next l.iterator' × (goal.iterator-loop g).is_finite l.iterator'
    × record {
      served : l.visit.is_served ≡ true;
      first : l.visit.first ≡ l.fn.visit.first;
      left : WaitsIfLeft l.visit.inbox;
      grows : Begins (g.S.ScreenSource.known l.fn.visit.source) (g.S.ScreenSource.known l.visit.source);
      failed : (g.L.Link.state l.visit.link).failed ≡ (g.L.Link.state l.fn.visit.link).failed;
      ended : (g.L.Link.state l.visit.link).ended ≡ (g.L.Link.state l.fn.visit.link).ended;
      serving : (s : Setup) (role : Role) (greet : Bool) → Stands s l.fn.visit.session (new_viewer role greet)
          → IsUnderWay g.S.ScreenSource.looks g.S.ScreenSource.cuts l.fn.visit.source l.visit.source (g.S.ScreenSource.known l.visit.source) (g.S.ScreenSource.answered l.visit.source) s (new_viewer role greet) l.visit.session l.visit.inbox
          (g.K.InputSink.sent l.fn.visit.sink) (g.K.InputSink.sent l.visit.sink) false (g.L.Link.state l.fn.visit.link) (g.L.Link.state l.visit.link);
    }

use Rattle.std.proofs.Common.{◌≡◌, ◌++◌, false}
use Rattle.roles.specs.Held.{left_in}
use Rattle.viewer_server.proofs.Leaving.{IsLeaving}
use Rattle.viewer_server.proofs.leave.leave.Given as goal
use Rattle.viewer_session.specs.Acts.{waiting_list}

abbrev pub invariant-loop : goal.invariant-loop
invariant-loop g l =
    (goal.iterator-loop g).can_next l.iterator' × (goal.iterator-loop g).is_finite l.iterator'
    × record {
      served : l.visit.is_served ≡ false;
      first : l.visit.first ≡ l.fn.visit.first;
      link : l.visit.link ≡ l.fn.visit.link;
      source : l.visit.source ≡ l.fn.visit.source;
      leaving : IsLeaving (g.K.InputSink.sent l.fn.visit.sink) (g.K.InputSink.sent l.visit.sink) (waiting_list l.fn.visit.inbox.waiting ++ left_in l.fn.visit.session.held) (waiting_list l.visit.inbox.waiting ++ left_in l.visit.session.held);
    }

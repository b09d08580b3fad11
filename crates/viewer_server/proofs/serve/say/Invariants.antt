use Rattle.std.proofs.Common.{◌≡◌, length}
use Rattle.viewer_server.specs.Steps.{Says}
use Rattle.viewer_server.proofs.serve.say.Given as goal

abbrev pub invariant-loop-link : goal.invariant-loop-link
invariant-loop-link g l =
    record {
      says : Says l.fn.session l.session (g.L.Link.state l.fn.link) (g.L.Link.state l.link);
      failed : (g.L.Link.state l.link).failed ≡ (g.L.Link.state l.fn.link).failed;
      ended : (g.L.Link.state l.link).ended ≡ (g.L.Link.state l.fn.link).ended;
    }

abbrev pub decreases-loop-link : goal.decreases-loop-link
decreases-loop-link g l = length l.session.unsent

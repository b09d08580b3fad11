use Rattle.std.proofs.Common.{◌≡◌, map}
use Rattle.host_turns.specs.Running.{HasRun, IsComing, came_over}
use Rattle.host_turns.proofs.hosts.read_all.Given as goal

-- The hosts so far were a run.
abbrev pub invariant-loop : goal.invariant-loop
invariant-loop g l =
    (goal.iterator-loop g).can_next l.iterator' × (goal.iterator-loop g).is_finite l.iterator'
    × (l.idle.lent ≡ l.fn.run.lent)
    × HasRun l.fn.run.lent.run_screen.now.width l.fn.run.lent.run_screen.now.height l.fn.run.lent.run_screen.now.password (IsComing g.L.Link.state g.H.Hosts.came) l.idle.last (came_over l.fn.run.has_called (g.L.Link.state l.fn.run.reader)) (map g.L.Link.state l.idle.parts.links.items) (g.P.Puts.updates l.fn.run.parts.publisher) (g.P.Puts.updates l.idle.parts.publisher)

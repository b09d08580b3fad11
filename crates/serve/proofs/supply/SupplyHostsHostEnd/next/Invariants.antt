-- Whether the first host has its turn again, and whether an operator may end the run, stays as it was.
use Rattle.std.proofs.Common.{◌≡◌}
use Rattle.serve.proofs.supply.SupplyHostsHostEnd.next.Given as goal

abbrev pub invariant-loop : goal.invariant-loop
invariant-loop g l = (goal.iterator-loop g).can_next l.iterator' × (goal.iterator-loop g).is_finite l.iterator' × (l.self.turns.again ≡ l.fn.self.turns.again) × (l.self.lifeline ≡ l.fn.self.lifeline)

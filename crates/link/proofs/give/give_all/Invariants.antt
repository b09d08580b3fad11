use Rattle.std.proofs.Common.{◌≡◌, ◌++◌, ◌≤◌, length}
use Rattle.link.proofs.give.give_all.Given as goal

abbrev pub invariant-loop : goal.invariant-loop
invariant-loop g l =
    (goal.iterator-loop g).can_next l.iterator' × (goal.iterator-loop g).is_finite l.iterator'
    × record {
      given : (g.L.Link.state l.link).given ++ l.left ≡ (g.L.Link.state l.fn.link).given ++ l.fn.bytes;
      taken : (g.L.Link.state l.link).taken ≡ (g.L.Link.state l.fn.link).taken;
      failed : (g.L.Link.state l.link).failed ≡ (g.L.Link.state l.fn.link).failed;
      ended : (g.L.Link.state l.link).ended ≡ (g.L.Link.state l.fn.link).ended;
      within : length l.left ≤ length l.fn.bytes;
      whole : length l.left ≡ length l.fn.bytes → l.left ≡ l.fn.bytes;
    }

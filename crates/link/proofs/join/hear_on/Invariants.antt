use Rattle.std.proofs.Common.{◌≡◌, false}
use Rattle.link.specs.Moment.{IsHearing}
use Rattle.link.proofs.join.hear_on.Given as goal

abbrev pub invariant-loop : goal.invariant-loop
invariant-loop g l =
    (goal.iterator-loop g).can_next l.iterator' × (goal.iterator-loop g).is_finite l.iterator'
    × (l.joining.is_heard ≡ false) × (l.joining.link.ghost_name ≡ l.fn.joining.link.ghost_name) × (l.joining.first ≡ l.fn.joining.first)
    × (l.joining.hello.password ≡ l.fn.joining.hello.password) × IsHearing (g.L.Link.state l.fn.joining.link.now) (g.L.Link.state l.joining.link.now) l.joining.hello

use Rattle.std.proofs.Common.{◌≡◌, ℕ, List, Option, true}
use Rattle.rfb_wire.specs.Handshake.{Joined}
use Rattle.link.specs.Links.{LinkState}
use Rattle.link.specs.Moment.{IsTelling}
use Rattle.link.proofs.join.tell_on.Given as goal

-- What was told before the loop is told on.
abbrev pub invariant-loop : goal.invariant-loop
invariant-loop g l =
    (goal.iterator-loop g).can_next l.iterator' × (goal.iterator-loop g).is_finite l.iterator'
    × (l.joining.is_heard ≡ true) × (l.joining.link.ghost_name ≡ l.fn.joining.link.ghost_name) × (l.joining.first ≡ l.fn.joining.first)
    × (l.joining.hello.password ≡ l.fn.joining.hello.password)
    × ((password : Option (List ℕ)) (start : LinkState) (joined : Joined) → IsTelling password start (g.L.Link.state l.fn.joining.link.now) joined l.fn.joining.messages l.fn.joining.given → IsTelling password start (g.L.Link.state l.joining.link.now) joined l.joining.messages l.joining.given)

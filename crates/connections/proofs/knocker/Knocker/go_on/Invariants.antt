-- It is the greeting of the same newcomer.
use Rattle.connections.specs.Greetings.{IsSameGreeting}
use Rattle.connections.proofs.knocker.Knocker.go_on.Given as goal

abbrev pub invariant-loop : goal.invariant-loop
invariant-loop g l = IsSameGreeting l.fn.self.greeting l.self.greeting

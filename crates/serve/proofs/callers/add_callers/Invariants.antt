-- The hosts so far that call were asked for.
use Rattle.serve.specs.Ports.{AsksForHosts}
use Rattle.serve.proofs.callers.add_callers.Given as goal

abbrev pub invariant-loop-host : goal.invariant-loop-host
invariant-loop-host g l = AsksForHosts l.settings l.fn.ports l.ports

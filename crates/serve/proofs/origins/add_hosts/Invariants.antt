-- To the hosts those were added that the origins so far name.
use Rattle.std.proofs.Common.{map, take}
use Rattle.std.specs.String.{string_bytes}
use Rattle.serve.specs.Origins.{AddsNamed}
use Rattle.serve.proofs.origins.add_hosts.Given as goal

abbrev pub invariant-loop-origin : goal.invariant-loop-origin
invariant-loop-origin l = AddsNamed (map string_bytes (take l.origin-index l.origins)) (map string_bytes l.fn.hosts.items) (map string_bytes l.hosts.items)

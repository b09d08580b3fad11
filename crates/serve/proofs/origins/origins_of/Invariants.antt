-- The origins of the hosts so far.
use Rattle.std.proofs.Common.{◌≡◌, map, take}
use Rattle.std.specs.String.{string_bytes}
use Rattle.serve.specs.Origins.{origin_over_http}
use Rattle.serve.proofs.origins.origins_of.Given as goal

abbrev pub invariant-loop-host : goal.invariant-loop-host
invariant-loop-host l = map string_bytes l.origins.items ≡ map origin_over_http (map string_bytes (take l.host-index l.hosts))

use Rattle.std.proofs.Common.{◌≡◌, map, take}
use Rattle.std.specs.String.{string_bytes}
use Rattle.web_site.specs.Policies.{policy_of}
use Rattle.web_site.proofs.policy.policy_of.Given as goal

abbrev pub invariant-loop-hash : goal.invariant-loop-hash
invariant-loop-hash l = l.policy.items ≡ policy_of (map string_bytes (take l.hash-index l.hashes))

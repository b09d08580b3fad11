-- The texts so far are origins.
use Rattle.std.proofs.Common.{take}
use Rattle.std.specs.List.{All}
use Rattle.std.specs.String.{string_bytes}
use Rattle.serve.specs.Origins.{IsAnOrigin}
use Rattle.serve.proofs.origins.first_bad.Given as goal

abbrev pub invariant-loop-number : goal.invariant-loop-number
invariant-loop-number l = All (λ origin. IsAnOrigin (string_bytes origin)) (take l.number l.origins)

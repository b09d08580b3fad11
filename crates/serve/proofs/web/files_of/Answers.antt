-- Where none is the first that is no origin, all are origins.
use Rattle.std.proofs.Common.{subst}
use Rattle.std.specs.List.{All}
use Rattle.std.specs.String.{string_bytes}
use Rattle.serve.specs.Origins.{IsAnOrigin}
use Rattle.serve.proofs.web.files_of.Goals as goal

pub returns-in-Ok-clause-origins : goal.returns-in-Ok-clause-origins
returns-in-Ok-clause-origins g c = subst (λ origins. All (λ origin. IsAnOrigin (string_bytes origin)) origins) c.as_slice.ensures.value c.in_default.ensures

use Rattle.std.proofs.Common.{arith}
use Rattle.std.proofs.lemmas.List.{length-take}
use Rattle.host_decoder.proofs.raw_data.RawPixels.missing.Goals as goal

pub returns-clause-left : goal.returns-clause-left
returns-clause-left c = rw (← c.self.view_is) (omega (arith, length-take c.self.inside.filled c.self.inside.begun, c.self.invariant))

use Rattle.std.proofs.Common.{inr, arith}
use Rattle.std.proofs.lemmas.List.{length-take}
use Rattle.host_decoder.proofs.raw_data.RawPixels.first_len.Goals as goal

pub returns-else-self-eq0-clause-ends : goal.returns-else-self-eq0-clause-ends
returns-else-self-eq0-clause-ends c lt =
    inr (rw (← c.self.view_is) (omega (arith, length-take c.self.inside.filled c.self.inside.begun, c.self.invariant, c.min.ensures, lt)))

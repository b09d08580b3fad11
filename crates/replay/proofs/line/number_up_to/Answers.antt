use Rattle.std.proofs.Common.{arith}
use Rattle.replay.proofs.Lines.{same_number}
use Rattle.replay.proofs.line.number_up_to.Goals as goal

pub returns-in_default-clause-none : goal.returns-in_default-clause-none
returns-in_default-clause-none c =
    λ n from to is.
    let same = same_number c.args.text.now c.in-Some.found n c.in-Some.ensures.found.0 (omega (arith, to, c.ranges.greatest.fits)) c.in-Some.ensures.found.1 is in
    absurd (omega (arith, same, to, c.if-found-greatest.false))

pub returns-in_default-2-clause-none : goal.returns-in_default-2-clause-none
returns-in_default-2-clause-none c =
    λ n from to is.
    let same = same_number c.args.text.now c.in-Some.found n c.in-Some.ensures.found.0 (omega (arith, to, c.ranges.greatest.fits)) c.in-Some.ensures.found.1 is in
    absurd (omega (arith, same, from, c.if-found-ge1.false))

-- Only memory is refused where a block begins to be looked at.
use Rattle.std.proofs.Common.{inl}
use Rattle.std.proofs.lemmas.Result.{err_from_is_err_and}
use Rattle.rebuilt_index.proofs.seeker.Seeker.see.Goals as goal

pub returns-in_err-begin-clause-err : goal.returns-in_err-begin-clause-err
returns-in_err-begin-clause-err c =
    let p = err_from_is_err_and c.from_residual.result c.from_residual.ensures.1 in
    rw (p.1, p.2) (λ blocks block seeks is same. inl (c.in_err-begin.ensures.err blocks seeks))

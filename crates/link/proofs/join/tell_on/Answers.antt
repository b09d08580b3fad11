-- The messages are told to their end, or the link fails or ends.
use Rattle.std.proofs.Common.{refl, ◌∙◌}
use Rattle.std.proofs.lemmas.Result.{err_from_is_err_and}
use Rattle.link.proofs.join.tell_on.Goals as goal

pub loop-init : goal.loop-init
loop-init g c = (tt, tt, c.requires, refl, refl, refl, λ password start joined k. k)

pub returns-then-is_told-clause-tells : goal.returns-then-is_told-clause-tells
returns-then-is_told-clause-tells g c = c.loop.invariant.6

pub returns-in_err-tell-clause-tells : goal.returns-in_err-tell-clause-tells
returns-in_err-tell-clause-tells g c =
    let p = err_from_is_err_and c.from_residual.result c.from_residual.ensures.1 in
    rw (p.1, p.2) (λ password start joined k. c.in_err-tell.ensures.keeps password start joined (c.loop.invariant.6 password start joined k))

pub loop-preserved : goal.loop-preserved
loop-preserved g c =
    let inv = c.loop.invariant in
    (tt, tt, c.tell.ensures.tells, c.tell.ensures.same ∙ inv.3, c.tell.ensures.first ∙ inv.4, c.tell.ensures.password ∙ inv.5, λ password start joined k. c.in_ok-tell.ensures.keeps password start joined (inv.6 password start joined k))

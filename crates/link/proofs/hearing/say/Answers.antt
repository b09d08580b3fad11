-- So much of what is to be said was given, or nothing.
use Rattle.std.proofs.Common.{inl}
use Rattle.std.proofs.lemmas.Result.{err_from_is_err_and}
use Rattle.link.proofs.Handshaking.{fails_since, hears_on, says_on, says_so_far}
use Rattle.link.proofs.hearing.say.Goals as goal

pub returns-in_err-count-clause-so_far : goal.returns-in_err-count-clause-so_far
returns-in_err-count-clause-so_far g c = λ start h. hears_on start _ _ _ c.give_some.ensures.taken c.in_err-count.ensures.ungiven h

pub returns-in_err-count-clause-keeps : goal.returns-in_err-count-clause-keeps
returns-in_err-count-clause-keeps g c =
    let p = err_from_is_err_and c.from_residual.result c.from_residual.ensures.1 in
    rw (p.1, p.2) (λ start k. inl (fails_since _ start (g.L.Link.state c.args.link.now) (g.L.Link.state c.give_some.new.link) k.failed k.ended c.in_err-count.ensures.err))

pub returns-clause-so_far : goal.returns-clause-so_far
returns-clause-so_far g c = λ start h. says_so_far start _ _ _ _ c.out.result.now c.in_ok-count.count c.out.ensures.said c.requires c.in_ok-count.ensures.given.0 c.in_ok-count.ensures.given.1 c.sent.ensures h

pub returns-clause-keeps : goal.returns-clause-keeps
returns-clause-keeps g c = λ start k. says_on start _ _ _ _ c.out.result.now c.in_ok-count.count c.out.ensures.said c.requires c.in_ok-count.ensures.given.0 c.in_ok-count.ensures.given.1 c.sent.ensures k

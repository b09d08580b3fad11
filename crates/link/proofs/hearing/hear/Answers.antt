-- One byte more was heard, or none has come, or the link or the handshake is at fault.
use Rattle.std.proofs.Common.{inl, ap, ◌∙◌}
use Rattle.std.proofs.lemmas.List.{append-nil}
use Rattle.std.proofs.lemmas.Result.{err_from_is_err_and}
use Rattle.link.specs.Links.{LinkState}
use Rattle.link.proofs.Handshaking.{fails_since, hearing_stays, hears_fault, hears_fine, hears_on, hears_so_far}
use Rattle.link.proofs.hearing.hear.Goals as goal

pub returns-in_err-taken-clause-so_far : goal.returns-in_err-taken-clause-so_far
returns-in_err-taken-clause-so_far g c = λ start h. hears_on start _ _ _ c.in_err-taken.ensures.untaken c.take_byte.ensures.given h

pub returns-in_err-taken-clause-keeps : goal.returns-in_err-taken-clause-keeps
returns-in_err-taken-clause-keeps g c =
    let p = err_from_is_err_and c.from_residual.result c.from_residual.ensures.1 in
    rw (p.1, p.2) (λ start k. inl (fails_since _ start (g.L.Link.state c.args.link.now) (g.L.Link.state c.take_byte.new.link) k.failed k.ended c.in_err-taken.ensures.err))

pub returns-in_default-clause-so_far : goal.returns-in_default-clause-so_far
returns-in_default-clause-so_far g c =
    let t = rw c.in_default.is at c.in_ok-taken.ensures.taken in λ start h. hears_on start _ _ _ (ap (λ (l : LinkState). l.taken) t ∙ append-nil _) (ap (λ (l : LinkState). l.given) t) h

pub returns-in_default-clause-keeps : goal.returns-in_default-clause-keeps
returns-in_default-clause-keeps g c = let t = rw c.in_default.is at c.in_ok-taken.ensures.taken in λ start k. hearing_stays start _ _ _ t k

pub returns-in_err-feed-clause-so_far : goal.returns-in_err-feed-clause-so_far
returns-in_err-feed-clause-so_far g c =
    let t = rw c.in-Some.is at c.in_ok-taken.ensures.taken in λ start h. hears_so_far start _ _ _ _ c.in-Some.byte c.requires t c.feed.ensures.heard c.feed.ensures.same h

pub returns-in_err-feed-clause-keeps : goal.returns-in_err-feed-clause-keeps
returns-in_err-feed-clause-keeps g c =
    let p = err_from_is_err_and c.from_residual-in_err-feed.result c.from_residual-in_err-feed.ensures.1 in
    let t = rw c.in-Some.is at c.in_ok-taken.ensures.taken in
    rw (p.1, p.2) (λ start k. hears_fault start _ _ _ _ c.feed.ensures.same c.in_err-feed.ensures.reads.1 (hears_so_far start _ _ _ _ c.in-Some.byte c.requires t c.feed.ensures.heard c.feed.ensures.same k.so_far))

pub returns-clause-so_far : goal.returns-clause-so_far
returns-clause-so_far g c =
    let t = rw c.in-Some.is at c.in_ok-taken.ensures.taken in λ start h. hears_so_far start _ _ _ _ c.in-Some.byte c.requires t c.feed.ensures.heard c.feed.ensures.same h

pub returns-clause-keeps : goal.returns-clause-keeps
returns-clause-keeps g c =
    let t = rw c.in-Some.is at c.in_ok-taken.ensures.taken in λ start k. hears_fine start _ _ _ _ c.in-Some.byte c.requires t c.feed.ensures.heard c.feed.ensures.same c.in_ok-feed.ensures.reads.2 k

-- The handshake is heard, and then the messages are told.
use Rattle.std.proofs.Common.{ap, inl}
use Rattle.std.proofs.lemmas.Result.{err_from_is_err_and}
use Rattle.link.proofs.Handshaking.{joins_with, telling_since, told_joins}
use Rattle.link.proofs.join.join_on.Goals as goal

pub returns-in_err-tell_on-clause-err : goal.returns-in_err-tell_on-clause-err
returns-in_err-tell_on-clause-err g c =
    let p = err_from_is_err_and c.from_residual-in_err-tell_on.result c.from_residual-in_err-tell_on.ensures.1 in
    let tells = c.begin_messages.ensures.tells in
    rw (p.1, p.2) (inl (c.in_err-tell_on.ensures.tells _ _ c.in_ok-joined.joined (telling_since _ _ _ _ c.in_ok-joined.joined _ _ c.in_ok-joined.ensures.heard tells.2 tells.1 (ap g.L.Link.state c.begin_messages.ensures.link.0))))

pub returns-clause-joined : goal.returns-clause-joined
returns-clause-joined g c =
    let tells = c.begin_messages.ensures.tells in
    joins_with _ _ _ _ c.in_ok-joined.joined c.hear_on.ensures.password
    (told_joins _ _ _ c.in_ok-joined.joined _ _ c.in_ok-tell_on.ensures.whole
    (c.in_ok-tell_on.ensures.tells _ _ c.in_ok-joined.joined (telling_since _ _ _ _ c.in_ok-joined.joined _ _ c.in_ok-joined.ensures.heard tells.2 tells.1 (ap g.L.Link.state c.begin_messages.ensures.link.0))))

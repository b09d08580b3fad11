-- What a marked link has taken behind its marks is what the link has taken that is marked.
use Rattle.std.proofs.lemmas.Result.{IfOk-weaker, IfErr-weaker}
use Rattle.show.proofs.Unmarked.{shows_nothing, shows_recording}
use Rattle.show.proofs.session.png_of_recording.Goals as goal

pub returns-clause-ok : goal.returns-clause-ok
returns-clause-ok g c =
    IfOk-weaker c.png_of_session-file.result _ _
    (λ file k. shows_recording g.P.Pace.has_come g.F.Recorded.is_all c.args.link c.into_played-link.result c.new-marked.result c.png_of_session-file.new.link file.items c.new-marked.ensures c.into_played-link.ensures c.requires c.plays.ensures.played c.plays.ensures.out k)
    c.png_of_session-file.ensures.ok

pub returns-clause-err : goal.returns-clause-err
returns-clause-err g c =
    IfErr-weaker c.png_of_session-file.result _ _
    (λ fault k. shows_nothing c.args.link c.into_played-link.result c.new-marked.result c.png_of_session-file.new.link fault c.new-marked.ensures c.into_played-link.ensures k)
    c.png_of_session-file.ensures.err

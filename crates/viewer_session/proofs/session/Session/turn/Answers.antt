use Rattle.std.proofs.Common.{ap, arith, subst, sym}
use Rattle.std.proofs.lemmas.Result.{IfErr-weaker}
use Rattle.viewer_session.proofs.Parts.{begins_length, turns_by}
use Rattle.viewer_session.proofs.session.Session.turn.Goals as goal

pub returns-clause-turns : goal.returns-clause-turns
returns-clause-turns g c = λ yes.
    let known = g.S.ScreenSource.known in
    let answered = g.S.ScreenSource.answered in
    turns_by g.S.ScreenSource.looks g.S.ScreenSource.cuts c.args.source.now c.look-looked.new.self c.turn_at.new.source c.args.self.now c.turn_at.new.self (known c.turn_at.new.source) (answered c.args.source.now) (answered c.look-looked.new.self) (answered c.turn_at.new.source) c.look-looked.result c.turn_at.result
    c.look-looked.ensures.looks
    (omega (arith, c.look-looked.ensures.known, begins_length (known c.look-looked.new.self) (known c.turn_at.new.source) c.turn_at.ensures.grows)) c.look-looked.ensures.answered (λ no. ap answered (c.turn_at.ensures.idle no).2)
    (λ no. ((c.turn_at.ensures.idle no).1, (c.turn_at.ensures.idle no).2)) c.turn_at.ensures.cuts

pub returns-clause-err : goal.returns-clause-err
returns-clause-err g c =
    IfErr-weaker c.turn_at.result _ _
    (λ fault refused. (
      refused.0,
      refused.1,
      refused.2,
      (c.look-looked.result, subst (λ source. g.S.ScreenSource.looks c.args.source.now c.look-looked.result source) (sym refused.3) c.look-looked.ensures.looks),
    ))
    c.turn_at.ensures.err

-- Nothing was sent, since the viewers only look on.
use Rattle.std.proofs.Common.{arith}
use Rattle.reflector.proofs.Watching.{looks_on}
use Rattle.reflector.proofs.place.show_viewers.Goals as goal

pub returns : goal.returns
returns g c =
    let parts = c.new-place.ensures.parts in let lent = c.new-place.ensures.lent in
    let all = rw (parts.0, parts.1, parts.2, lent.1, lent.2) at c.serve_viewers-left.ensures in
    rw (c.into_parts-door.ensures.0, c.into_parts-door.ensures.1)
    (looks_on _ _ g.S.ScreenSource.looks g.S.ScreenSource.cuts g.S.ScreenSource.may_end _ _ g.S.ScreenSource.known _ _ _ _ (omega (arith, c.args.maker.now.size.wide.1)) (omega (arith, c.args.maker.now.size.high.1)) c.requires.role all)

-- What its visits were keeps the promise: the maker is of a screen that can be served.
use Rattle.std.proofs.Common.{arith}
use Rattle.reflector.proofs.Promising.{keeps_promise}
use Rattle.reflector.proofs.place.keep.Goals as goal

pub returns-in-View-clause-visits : goal.returns-in-View-clause-visits
returns-in-View-clause-visits g c = rw c.of-sink.ensures at c.show_viewers-door.ensures

pub returns-in-View-clause-promise : goal.returns-in-View-clause-promise
returns-in-View-clause-promise g c =
    let visits = rw c.of-sink.ensures at c.show_viewers-door.ensures in
    keeps_promise _ _ g.S.ScreenSource.looks g.S.ScreenSource.cuts g.S.ScreenSource.may_end _ _ g.S.ScreenSource.known _ _ _ _ (omega (arith, c.args.maker.size.wide.1)) (omega (arith, c.args.maker.size.high.1)) visits

pub returns-clause-promise : goal.returns-clause-promise
returns-clause-promise g c =
    keeps_promise _ _ g.S.ScreenSource.looks g.S.ScreenSource.cuts g.S.ScreenSource.may_end _ _ g.S.ScreenSource.known _ _ _ _ (omega (arith, c.args.maker.size.wide.1)) (omega (arith, c.args.maker.size.high.1)) c.serve_from.ensures.visits

use Rattle.std.proofs.Common.{refl}
use Rattle.std.proofs.lemmas.Result.{err_from_is_err_and}
use Rattle.host_writer.proofs.Writers.{gives_more, gives_nothing, stops_since}
use Rattle.host_writer.proofs.run.give_out.Goals as goal

pub loop-init : goal.loop-init
loop-init g c = (
  tt,
  tt,
  record {
    gives = gives_nothing _ _ _ refl refl;
    is_open = (refl, refl);
    source = refl;
    taker = refl;
    strokes = refl;
    drops = refl;
    request = refl;
    asked = refl;
    first = refl;
  },
)

pub returns-in_err-was_given-clause-gives : goal.returns-in_err-was_given-clause-gives
returns-in_err-was_given-clause-gives g c = gives_more _ _ _ _ _ _ c.loop.invariant.2.gives c.give.ensures.gives

pub returns-in_err-was_given-clause-stops : goal.returns-in_err-was_given-clause-stops
returns-in_err-was_given-clause-stops g c =
    let p = err_from_is_err_and c.from_residual.result c.from_residual.ensures.1 in
    rw (p.1, p.2)
    (stops_since (g.F.StopFlag.was_set c.args.stop.now) _ c.give.new.self.saying (g.L.Link.state c.args.telling.now.link) (g.L.Link.state c.loop.telling.link) (g.L.Link.state c.give.new.self.link) c.loop.invariant.2.is_open c.in_err-was_given.ensures.stops)

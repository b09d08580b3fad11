use Rattle.std.proofs.Common.{ap, map, arith}
use Rattle.raster.specs.Update.{after_paints}
use Rattle.host_decoder.specs.Updates.{in_colours}
use Rattle.host_decoder.proofs.Rectangles.{to_area, to_end}
use Rattle.host_decoder.proofs.update_data.next_rectangle.Goals as goal

pub returns-then-left-gt0-clause-goes_on : goal.returns-then-left-gt0-clause-goes_on
returns-then-left-gt0-clause-goes_on c start sofar holds = to_area c.args.painter.now c.args.left c.of.result start sofar c.if-left-gt0.true c.of.ensures holds

pub returns-in-Ok-clause-goes_on : goal.returns-in-Ok-clause-goes_on
returns-in-Ok-clause-goes_on c start sofar holds =
    to_end c.args.painter.now c.patch.new.self c.args.left c.in-Ok.patch start sofar (omega arith) (ap (λ p. p.width) c.in-Ok.ensures.patch, ap (λ p. p.height) c.in-Ok.ensures.patch)
    (c.in-Ok.ensures.same start (map in_colours sofar) holds) (c.in-Ok.ensures.begun (after_paints start (map in_colours sofar)) holds.shows)

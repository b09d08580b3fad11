use Rattle.std.proofs.Common.{[], ◌∷◌, ◌++◌, map, refl}
use Rattle.host_decoder.specs.Data.{DataStands}
use Rattle.host_decoder.specs.Updates.{in_colours}
use Rattle.host_decoder.proofs.Drawn.{open_fed, whole_fed}
use Rattle.host_decoder.proofs.RectangleData.{paint_held, uses_whole, uses_open, uses_faulty}
use Rattle.host_decoder.proofs.update_data.read_data.Goals as goal

pub returns-in-Err-clause-uses : goal.returns-in-Err-clause-uses
returns-in-Err-clause-uses c start sofar reading stands =
    uses_faulty c.args.painter.now c.feed.new.painter c.args.left c.args.bytes.now start sofar reading c.in-Err.fault (c.in-Err.ensures.fed start (map in_colours sofar) reading stands)

pub returns-then-not-whole-clause-uses : goal.returns-then-not-whole-clause-uses
returns-then-not-whole-clause-uses c start sofar reading stands =
    let new = c.feed.new.painter in
    let paints = map in_colours sofar in
    let f = open_fed (DataStands c.feed.new.self start paints new) start paints new reading c.args.bytes.now c.in-Ok.fed (c.in-Ok.ensures.fed start paints reading stands) c.if-not-whole.true in
    uses_open c.args.painter.now new c.feed.new.self c.args.left c.in-Ok.fed.0 c.args.bytes.now start sofar reading f.2 f.1 f.0

pub returns-clause-uses : goal.returns-clause-uses
returns-clause-uses c start sofar reading stands =
    let new = c.feed.new.painter in
    let paints = map in_colours sofar in
    let f = whole_fed (DataStands c.feed.new.self start paints new) start paints new reading c.args.bytes.now c.in-Ok.fed (c.in-Ok.ensures.fed start paints reading stands) c.if-not-whole.false in
    let painted = f.0.painted in
    let held = paint_held start new sofar (in_colours painted) painted refl f.0.shows in
    uses_whole c.args.painter.now c.next_rectangle.new.painter c.next_rectangle.result c.args.left c.in-Ok.fed.0 c.args.bytes.now start sofar reading painted f.1 f.0.reads
    (rw (← c.feed.ensures.size.width, ← c.feed.ensures.size.height) (c.next_rectangle.ensures.goes_on start (sofar ++ painted ∷ []) held))

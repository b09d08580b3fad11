-- An input was taken, and judged.
use Rattle.input_relay.specs.Relay.{message}
use Rattle.host_writer.proofs.Drops.{counted_more}
use Rattle.host_writer.proofs.Writers.{takes_input}
use Rattle.host_writer.proofs.input.take_input.Goals as goal

pub returns-in-Some-clause-takes : goal.returns-in-Some-clause-takes
returns-in-Some-clause-takes g c =
    takes_input (g.K.InputSource.taken c.args.taker.now) (g.K.InputSource.taken c.take.new.self) c.args.strokes.now c.passes-is_told.new.strokes (message c.in-Some.place c.in-Some.input) c.passes-is_told.result c.of_input.result c.in-Some.ensures.some c.passes-is_told.ensures.value c.passes-is_told.ensures.stands c.of_input.ensures

pub returns-in-Some-clause-counted : goal.returns-in-Some-clause-counted
returns-in-Some-clause-counted g c = counted_more _ _ _ _ (message c.in-Some.place c.in-Some.input) c.passes-is_told.result _ _ c.in-Some.ensures.some c.passes-is_told.ensures.value c.passes-is_told.ensures.stands c.passes-is_told.ensures.counted

use Rattle.std.proofs.Common.{◌∙◌, ap, arith}
use Rattle.std.proofs.lemmas.List.{with_items_is}
use Rattle.std.specs.Vec.{with_items}
use Rattle.roles.specs.Held.{input_in}
use Rattle.roles.specs.Strokes.{input_from, counts_after}
use Rattle.roles.proofs.StrokesLaws.{value_stands, passed_more, stands_through, stands_counted}
use Rattle.roles.proofs.strokes.Strokes.passes.Goals as goal

pub returns-then-not-passes-clause-value : goal.returns-then-not-passes-clause-value
returns-then-not-passes-clause-value c taken stands = c.lets-passes.ensures.value ∙ value_stands c.args.self.now taken (input_from c.args.place (input_in c.args.input.now)) stands

pub returns-then-not-passes-clause-unbroken : goal.returns-then-not-passes-clause-unbroken
returns-then-not-passes-clause-unbroken c taken stands = passed_more c.args.self.now taken (input_from c.args.place (input_in c.args.input.now)) c.lets-passes.result stands c.lets-passes.ensures.value

pub returns-then-not-passes-clause-stands : goal.returns-then-not-passes-clause-stands
returns-then-not-passes-clause-stands c taken stands =
    stands_counted c.args.self.now (record { place = c.self.inside.place; held = c.self.inside.held; counts = c.self.inside.counts.items }) (with_items c.self.inside.counts c.count_up.new.counts).items taken (input_from c.args.place (input_in c.args.input.now)) c.lets-passes.result stands
    c.lets-passes.ensures.value c.if-not-passes.true (c.self.view_is ∙ c.lets-passes.ensures.kept)
    (with_items_is c.self.inside.counts c.count_up.new.counts (omega arith) ∙ c.count_up.ensures ∙ ap (counts_after c.args.place) c.as_mut_slice.ensures.value)

pub returns-else-not-passes-clause-value : goal.returns-else-not-passes-clause-value
returns-else-not-passes-clause-value c taken stands = c.lets-passes.ensures.value ∙ value_stands c.args.self.now taken (input_from c.args.place (input_in c.args.input.now)) stands

pub returns-else-not-passes-clause-unbroken : goal.returns-else-not-passes-clause-unbroken
returns-else-not-passes-clause-unbroken c taken stands = passed_more c.args.self.now taken (input_from c.args.place (input_in c.args.input.now)) c.lets-passes.result stands c.lets-passes.ensures.value

pub returns-else-not-passes-clause-stands : goal.returns-else-not-passes-clause-stands
returns-else-not-passes-clause-stands c taken stands =
    stands_through c.args.self.now c.lets-passes.new.self taken (input_from c.args.place (input_in c.args.input.now)) c.lets-passes.result stands c.lets-passes.ensures.value c.if-not-passes.false c.lets-passes.ensures.kept

use Rattle.std.proofs.Common.{◌*◌, ap, subst, ◌∙◌}
use Rattle.host_decoder.specs.Decoder.{StandsUnpainted, passing}
use Rattle.host_decoder.specs.declared.passed.Passed.TheVariants as passed
use Rattle.host_decoder.proofs.Completed.{behind_colours}
use Rattle.host_decoder.proofs.complete.behind_colours.Goals as goal

pub returns-clause-stands : goal.returns-clause-stands
returns-clause-stands c w h =
    subst (λ r. StandsUnpainted w h c.past.result r)
    (ap (λ n. passing (n * 6) passed.Colours) c.from.ensures ∙ behind_colours c.args.b.now c.read_colour_map_head-count.result c.requires c.read_colour_map_head-count.ensures) (c.past.ensures.stands w h)

use Rattle.std.proofs.Common.{ap, ◌∙◌}
use Rattle.host_decoder.specs.Events.{sized}
use Rattle.raster.specs.Update.{Bell}
use Rattle.host_decoder.proofs.Ends.{bell_ends}
use Rattle.host_decoder.proofs.complete.behind_kind.Goals as goal

pub returns-in-2-clause-stands : goal.returns-in-2-clause-stands
returns-in-2-clause-stands c =
    rw c.in-2.is
    (bell_ends c.args.painter.now.width c.args.painter.now.height c.bell.result
    (c.bell.ensures ∙ (ap (λ w. sized w c.size-width.result.1 Bell) c.size-width.ensures.0 ∙ ap (λ h. sized c.args.painter.now.width h Bell) c.size-width.ensures.1)))

use Rattle.std.proofs.Common.{◌≡◌, refl, sym, ap, ◌∙◌}
use Rattle.raster.specs.Encoding.{encoding_number}
use Rattle.raster.specs.Screen.{part_of}
use Rattle.painter.specs.Painter.{worked}
use Rattle.host_decoder.proofs.Drawn.{painted_around}
use Rattle.host_decoder.proofs.data.Data.new.Goals as goal
use Rattle.host_decoder.proofs.data.Data.new.Goals.{in-Some-Raw, in-Some-Rre, in-Some-Hextile, in-None}

pub returns-clause-stands : goal.returns-clause-stands
returns-clause-stands c start paints painter over =
    let area = c.args.area in
    let shown = part_of area (worked painter) in
    let around = painted_around start paints area painter over in
    elim c.match-of_number.branch [
      | in-Some-Raw w ↦ (let number : c.args.encoding ≡ 0 = sym w.in-Some-Raw.ensures.found ∙ ap encoding_number w.in-Some-Raw.field-0-is in
          rw (w.body-is, number) (around, w.of.ensures.stands shown))
      | in-Some-Rre w ↦ (let number : c.args.encoding ≡ 2 = sym w.in-Some-Rre.ensures.found ∙ ap encoding_number w.in-Some-Rre.field-0-is in
          rw (w.body-is, number) (around, w.of-in-Some-Rre.ensures.stands shown))
      | in-Some-Hextile w ↦ (let number : c.args.encoding ≡ 5 = sym w.in-Some-Hextile.ensures.found ∙ ap encoding_number w.in-Some-Hextile.field-0-is in
          rw (w.body-is, number) (around, w.of-in-Some-Hextile.ensures.stands shown))
      | in-None w ↦ rw (w.body-is, w.if-encoding-eq-COPY_RECT.true, w.new.ensures) (over, refl)
    ]

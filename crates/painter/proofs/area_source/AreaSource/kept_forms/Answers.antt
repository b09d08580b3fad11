use Rattle.std.proofs.Common.{refl}
use Rattle.raster.specs.Screen.{part_of, value_at}
use Rattle.hextile_codec.proofs.FormsOf.{forms_kept}
use Rattle.painter.proofs.area_source.AreaSource.kept_forms.Goals as goal

pub returns : goal.returns
returns c = λ pixels looks.
    let source = c.args.self.now in
    let area = c.args.area.now in
    let colours = value_at source.width source.colours.now in
    forms_kept c.args.format.now area.w area.h (part_of area colours) pixels c.forms_in.result.now (c.if-not-keeps_apart.ensures.0 refl) looks (c.forms_in.ensures colours source.kept)

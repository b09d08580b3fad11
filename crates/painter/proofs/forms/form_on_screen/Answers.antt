use Rattle.std.proofs.Common.{sym, subst}
use Rattle.raster.specs.declared.rect.Rect.{Rect}
use Rattle.hextile_codec.specs.Marks.{LiesAmong}
use Rattle.painter.proofs.FormLaws.{lies_on_screen}
use Rattle.painter.proofs.forms.form_on_screen.Goals as goal

pub form_of_tile-requires-clause-lies : goal.form_of_tile-requires-clause-lies
form_of_tile-requires-clause-lies c =
    subst (λ (r : Rect). LiesAmong c.args.colours.now c.args.width r) (sym c.tile_rect-area.ensures)
    (lies_on_screen c.args.width c.args.height c.args.t c.args.colours.now c.requires.size c.requires.rows c.requires.there)

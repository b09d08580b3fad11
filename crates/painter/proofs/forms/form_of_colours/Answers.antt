use Rattle.raster.specs.Screen.{value_at}
use Rattle.painter.proofs.FormLaws.{lies_alone, stands_whole}
use Rattle.painter.proofs.forms.form_of_colours.Goals as goal

pub form_of_tile-requires-clause-lies : goal.form_of_tile-requires-clause-lies
form_of_tile-requires-clause-lies c = lies_alone c.args.w c.args.h c.args.colours.now c.requires.count c.requires.wide.1 c.requires.high.1

pub returns : goal.returns
returns c = stands_whole c.args.w c.args.h (value_at c.args.w c.args.colours.now) c.form_of_tile.result c.requires.wide.0 c.requires.high.0 c.form_of_tile.ensures.stands

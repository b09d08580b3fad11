use Rattle.std.proofs.Common.{arith}
use Rattle.painter.proofs.FormLaws.{stand_but}
use Rattle.painter.proofs.colours.paint_patch.Goals as goal

pub renew-requires-clause-others : goal.renew-requires-clause-others
renew-requires-clause-others c =
    stand_but c.args.patch.now c.args.colours.now c.paint.new.colours c.args.forms.now.list.items (omega (arith, c.requires.size.wide.0)) c.paint.ensures c.requires.forms

use Rattle.raster.specs.Screen.{value_at}
use Rattle.painter.proofs.FormLaws.{HasRenewed}
use Rattle.painter.proofs.forms.Forms.renew_copied.Given as goal

abbrev pub invariant-loop-t : goal.invariant-loop-t
invariant-loop-t l = HasRenewed l.width l.height l.copies l.numbers (value_at l.width l.colours) l.t l.fn.self.list.items l.self.list.items

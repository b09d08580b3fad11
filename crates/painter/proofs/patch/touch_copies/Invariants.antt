use Rattle.std.proofs.Common.{take}
use Rattle.tiles.specs.Grid.{IsTouched}
use Rattle.painter.proofs.TouchLaws.{met_by}
use Rattle.painter.proofs.patch.touch_copies.Given as goal

abbrev pub invariant-loop-copy : goal.invariant-loop-copy
invariant-loop-copy l = IsTouched (met_by (λ c. c.area) l.fn.grid (take l.copy-index l.copies)) l.n l.fn.grid l.grid

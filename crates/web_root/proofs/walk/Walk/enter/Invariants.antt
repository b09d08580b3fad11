use Rattle.std.proofs.Common.{All}
use Rattle.web_root.specs.Roots.{IsFileOf}
use Rattle.web_root.proofs.walk.Walk.enter.Given as goal

abbrev pub invariant-loop-name : goal.invariant-loop-name
invariant-loop-name g l = All (IsFileOf (g.D.Disk.has l.disk) (g.D.Disk.gave l.disk)) l.self.table

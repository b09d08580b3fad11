use Rattle.std.proofs.Common.{All}
use Rattle.web_root.specs.Roots.{IsFileOf}
use Rattle.web_root.proofs.walk.read_all.Given as goal

abbrev pub invariant-loop : goal.invariant-loop
invariant-loop g l = All (IsFileOf (g.D.Disk.has l.disk) (g.D.Disk.gave l.disk)) l.walk.table

use Rattle.std.proofs.Common.{◌≡◌}
use Rattle.loop_tests.proofs.puts.puts_many.Given as goal

abbrev pub invariant-loop-n : goal.invariant-loop-n
invariant-loop-n g l = (g.P.Puts.width l.puts ≡ 4) × (g.P.Puts.height l.puts ≡ 4)

use Rattle.std.proofs.Common.{◌≡◌}
use Rattle.bench_threads.proofs.beside.put_often.Given as goal

abbrev pub invariant-loop : goal.invariant-loop
invariant-loop g l = (g.P.Puts.width l.puts ≡ 1920) × (g.P.Puts.height l.puts ≡ 1080)

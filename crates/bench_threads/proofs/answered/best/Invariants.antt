use Rattle.std.proofs.Common.{◌≡◌}
use Rattle.bench_threads.proofs.answered.best.Given as goal

abbrev pub invariant-loop : goal.invariant-loop
invariant-loop g l = (g.P.Puts.width l.puts ≡ 1920) × (g.P.Puts.height l.puts ≡ 1080) × (g.S.ScreenSource.width l.source ≡ 1920) × (g.S.ScreenSource.height l.source ≡ 1080)

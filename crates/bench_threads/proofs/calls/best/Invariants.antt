use Rattle.std.proofs.Common.{◌≡◌}
use Rattle.bench_threads.proofs.calls.best.Given as goal

abbrev pub invariant-loop-round : goal.invariant-loop-round
invariant-loop-round g l = (g.P.Puts.width l.puts ≡ 1920) × (g.P.Puts.height l.puts ≡ 1080) × (g.S.ScreenSource.width l.source ≡ 1920) × (g.S.ScreenSource.height l.source ≡ 1080)

use Rattle.std.proofs.Common.{◌≡◌}
use Rattle.bench_threads.proofs.beside.cut_often.Given as goal

abbrev pub invariant-loop : goal.invariant-loop
invariant-loop g l = (g.S.ScreenSource.width l.source ≡ 1920) × (g.S.ScreenSource.height l.source ≡ 1080)

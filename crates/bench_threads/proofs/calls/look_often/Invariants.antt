use Rattle.std.proofs.Common.{◌≡◌}
use Rattle.bench_threads.proofs.calls.look_often.Given as goal

abbrev pub invariant-loop : goal.invariant-loop
invariant-loop g l = (g.S.ScreenSource.width l.source ≡ g.S.ScreenSource.width l.initial.source) × (g.S.ScreenSource.height l.source ≡ g.S.ScreenSource.height l.initial.source)

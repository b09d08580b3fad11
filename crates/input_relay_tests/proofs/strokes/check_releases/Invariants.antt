use Rattle.std.proofs.Common.{◌≡◌, length}
use Rattle.input_relay_tests.proofs.strokes.check_releases.Given as goal

abbrev pub invariant-loop-key : goal.invariant-loop-key
invariant-loop-key g l = length l.strokes.counts ≡ length l.initial.strokes.counts

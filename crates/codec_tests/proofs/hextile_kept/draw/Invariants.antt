use Rattle.std.proofs.Common.{◌≡◌, length}
use Rattle.codec_tests.proofs.hextile_kept.draw.Given as goal

abbrev pub invariant-loop-k : goal.invariant-loop-k
invariant-loop-k l = length l.colours.items ≡ l.k

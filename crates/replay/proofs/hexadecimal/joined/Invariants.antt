use Rattle.std.proofs.Common.{◌≡◌, drop, true}
use Rattle.replay.proofs.Words.{left_of, behind}
use Rattle.replay.proofs.hexadecimal.joined.Given as goal

abbrev pub invariant-loop-byte : goal.invariant-loop-byte
invariant-loop-byte l = left_of true l.text ≡ behind l.digits.items (left_of l.begins (drop l.byte-index l.text))

use Rattle.std.proofs.Common.{◌≡◌, take}
use Rattle.std.specs.String.{string_bytes}
use Rattle.replay.specs.Script.{bytes_text}
use Rattle.replay.proofs.hexadecimal.spelled.Given as goal

abbrev pub invariant-loop-index : goal.invariant-loop-index
invariant-loop-index l = string_bytes l.text ≡ bytes_text (take l.index l.bytes)

use Rattle.std.proofs.Common.{◌≡◌, ◌∷◌, map, take}
use Rattle.std.specs.String.{string_bytes}
use Rattle.serve.proofs.host_text.copied.Given as goal

-- The first host's text was copied, and those of the others so far.
abbrev pub invariant-loop-host : goal.invariant-loop-host
invariant-loop-host l = map string_bytes l.texts.items ≡ string_bytes l.settings.host ∷ map string_bytes (take l.host-index l.settings.next.items)

use Rattle.std.specs.Prelude.{◌<◌, IfSome, length}
use Rattle.shared_screen.proofs.spares.newest_free.Given as goal

abbrev pub invariant-loop-at : goal.invariant-loop-at
invariant-loop-at g l = IfSome l.found (λ at. at < length l.boards)

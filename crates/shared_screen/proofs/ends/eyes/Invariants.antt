use Rattle.std.proofs.Common.{◌≡◌, [], All, length}
use Rattle.shared_screen.proofs.ends.eyes.Given as goal

abbrev pub invariant-loop : goal.invariant-loop
invariant-loop g l = record {
  count : length l.eyes.items ≡ l.counter;
  empty : All (λ eye. eye ≡ []) l.eyes.items;
}

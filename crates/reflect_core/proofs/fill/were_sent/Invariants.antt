use Rattle.std.proofs.Common.{◌≡◌, ℕ, ◌<◌, ◌≤◌, true}
use Rattle.std.specs.Prelude.{is_some}
use Rattle.tiles.specs.Have.{sent_at}
use Rattle.reflect_core.proofs.fill.were_sent.Given as goal

abbrev pub invariant-loop-t : goal.invariant-loop-t
invariant-loop-t l = (t : ℕ) → l.first ≤ t → t < l.t → is_some (sent_at l.have t) ≡ true

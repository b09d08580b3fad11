use Rattle.std.proofs.Common.{ℕ, ◌<◌, slice_index_or}
use Rattle.roles.proofs.held.place_of.Given as goal

abbrev pub invariant-loop-index : goal.invariant-loop-index
invariant-loop-index l = (k : ℕ) → k < l.index → slice_index_or l.keys k 0 < l.key

use Rattle.std.proofs.Common.{◌≡◌, ℕ, slice_index_or, None}
use Rattle.painter.proofs.forms.Forms.begin.Given as goal

abbrev pub invariant-loop : goal.invariant-loop
invariant-loop l = (t : ℕ) → slice_index_or l.self.list.items t None ≡ slice_index_or l.fn.self.list.items t None

use Rattle.std.proofs.Common.{◌≡◌, ℕ, ◌<◌, length, slice_index_or, None}
use Rattle.std.specs.Prelude.{◌&&◌, nat_lt, if◌then◌else◌}
use Rattle.tiles.specs.Grid.{is_lacked}
use Rattle.painter.proofs.forms.Forms.take_lacked.Given as goal

abbrev pub invariant-loop-t : goal.invariant-loop-t
invariant-loop-t l =
    (k : ℕ) → k < length l.self.list.items
    → slice_index_or l.self.list.items k None ≡ (if nat_lt k l.t && is_lacked l.lacked.grid.now l.lacked.newer.now l.lacked.number k then slice_index_or l.newer.list.items k None else slice_index_or l.fn.self.list.items k None)

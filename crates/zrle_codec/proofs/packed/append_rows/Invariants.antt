use Rattle.std.proofs.Common.{◌≡◌, ◌++◌}
use Rattle.zrle_codec.specs.Tiles.{packed_rows}
use Rattle.zrle_codec.proofs.packed.append_rows.Given as goal

abbrev pub invariant-loop-y : goal.invariant-loop-y
invariant-loop-y l = l.out.items ≡ l.initial.out.items ++ packed_rows l.bits l.w l.y l.indices

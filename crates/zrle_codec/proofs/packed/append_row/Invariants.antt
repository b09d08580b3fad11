use Rattle.std.proofs.Common.{◌≡◌, ◌++◌, map}
use Rattle.std.specs.List.{range_with_len}
use Rattle.zrle_codec.specs.Tiles.{packed_byte}
use Rattle.zrle_codec.proofs.packed.append_row.Given as goal

abbrev pub invariant-loop-j : goal.invariant-loop-j
invariant-loop-j l = l.out.items ≡ l.initial.out.items ++ map (packed_byte l.bits l.row) (range_with_len 0 l.j)

use Rattle.std.proofs.Common.{arith, lit<}
use Rattle.zrle_codec.specs.Tiles.{packed_byte}
use Rattle.zrle_codec.proofs.packed.pack_two.Goals as goal

pub overflow_cast-result : goal.overflow_cast-result
overflow_cast-result c = omega (arith, c.index_at.ensures.small 16 (lit< tt) c.requires.each, c.index_at-2.ensures.small 16 (lit< tt) c.requires.each)

pub returns : goal.returns
unfolding packed_byte
returns c = omega (arith, c.index_at.ensures.value, c.index_at-2.ensures.value)

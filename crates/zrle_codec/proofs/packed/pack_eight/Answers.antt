use Rattle.std.proofs.Common.{arith, lit<}
use Rattle.zrle_codec.specs.Tiles.{packed_byte}
use Rattle.zrle_codec.proofs.packed.pack_eight.Goals as goal

pub overflow_cast-result : goal.overflow_cast-result
overflow_cast-result c = omega (arith, c.index_at.ensures.small 2 (lit< tt) c.requires.each, c.index_at-2.ensures.small 2 (lit< tt) c.requires.each, c.index_at-3.ensures.small 2 (lit< tt) c.requires.each, c.index_at-4.ensures.small 2 (lit< tt) c.requires.each, c.index_at-5.ensures.small 2 (lit< tt) c.requires.each, c.index_at-6.ensures.small 2 (lit< tt) c.requires.each, c.index_at-7.ensures.small 2 (lit< tt) c.requires.each, c.index_at-8.ensures.small 2 (lit< tt) c.requires.each)

pub returns : goal.returns
unfolding packed_byte
returns c = omega (arith, c.index_at.ensures.value, c.index_at-2.ensures.value, c.index_at-3.ensures.value, c.index_at-4.ensures.value, c.index_at-5.ensures.value, c.index_at-6.ensures.value, c.index_at-7.ensures.value, c.index_at-8.ensures.value)

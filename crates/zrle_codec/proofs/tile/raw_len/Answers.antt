use Rattle.std.proofs.Common.{arith}
use Rattle.zrle_codec.proofs.Bounded.{few_bytes}
use Rattle.zrle_codec.proofs.tile.raw_len.Goals as goal

pub overflow_mul-result : goal.overflow_mul-result
overflow_mul-result c = omega (arith, few_bytes c.args.pixels.now.len c.args.count (omega (arith, c.args.pixels.now.inside, c.args.pixels.now.short)) c.requires)

pub overflow_add-result : goal.overflow_add-result
overflow_add-result c = omega (arith, few_bytes c.args.pixels.now.len c.args.count (omega (arith, c.args.pixels.now.inside, c.args.pixels.now.short)) c.requires)

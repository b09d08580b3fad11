use Rattle.std.proofs.Common.{refl, arith}
use Rattle.zrle_codec.specs.Cpixel.{cpixel_bytes}
use Rattle.zrle_codec.proofs.Growing.{pieces_more, pieces_all}
use Rattle.zrle_codec.proofs.pixels.append_pixels.Goals as goal

pub loop-value-preserved : goal.loop-value-preserved
loop-value-preserved c =
    pieces_more (cpixel_bytes c.args.pixels.now.format) c.args.out.now.items c.loop-value.out.items c.append.new.out.items c.args.values.now c.loop-value.value-index _ (omega arith) refl c.loop-value.invariant c.in_ok-append.ensures.ok

pub returns-clause-ok : goal.returns-clause-ok
returns-clause-ok c = pieces_all (cpixel_bytes c.args.pixels.now.format) c.args.out.now.items c.loop-value.out.items c.args.values.now c.loop-value.value-index (omega arith) c.loop-value.invariant

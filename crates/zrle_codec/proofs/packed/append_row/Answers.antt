use Rattle.zrle_codec.specs.Tiles.{packed_byte}
use Rattle.zrle_codec.proofs.Paletted.{byte_more}
use Rattle.zrle_codec.proofs.packed.append_row.Goals as goal

pub loop-j-preserved : goal.loop-j-preserved
loop-j-preserved c =
    byte_more (packed_byte c.args.bits c.args.row.now) c.args.out.now.items c.loop-j.out.items c.append_byte.new.out.items c.loop-j.j c.pack.result c.pack.ensures c.loop-j.invariant c.in_ok-append_byte.ensures.ok

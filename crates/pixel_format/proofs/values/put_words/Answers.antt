use Rattle.std.proofs.Common.{◌*◌, refl, arith}
use Rattle.std.specs.Int.{w32, to_le_bytes}
use Rattle.pixel_format.proofs.RowLemmas.{piece_goes_on}
use Rattle.pixel_format.proofs.values.put_words.Goals as goal

pub loop-i-preserved : goal.loop-i-preserved
loop-i-preserved c =
    rw (c.write_u32.ensures)
    (piece_goes_on (to_le_bytes w32) 4 c.args.values.now c.loop-i.out _ c.loop-i.i (4 * c.loop-i.i) (omega arith) (omega arith) refl (omega arith) c.loop-i.invariant)

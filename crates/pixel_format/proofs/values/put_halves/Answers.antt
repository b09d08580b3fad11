use Rattle.std.proofs.Common.{◌*◌, get_or, refl, arith}
use Rattle.std.specs.Int.{w16, to_le_bytes}
use Rattle.pixel_format.proofs.RowLemmas.{piece_goes_on}
use Rattle.pixel_format.proofs.Pixels.{low_byte, high_byte}
use Rattle.pixel_format.proofs.values.put_halves.Goals as goal

pub loop-i-preserved : goal.loop-i-preserved
loop-i-preserved c =
    rw (c.write_u16.ensures, low_byte (get_or c.args.values.now c.loop-i.i 0), high_byte (get_or c.args.values.now c.loop-i.i 0))
    (piece_goes_on (to_le_bytes w16) 2 c.args.values.now c.loop-i.out _ c.loop-i.i (2 * c.loop-i.i) (omega arith) (omega arith) refl (omega arith) c.loop-i.invariant)

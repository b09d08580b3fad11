use Rattle.std.proofs.Common.{◌*◌, get_or, arith}
use Rattle.pixel_format.specs.PixelFormat.{PixelFormat, tint}
use Rattle.pixel_format.proofs.RowLemmas.{row_goes_on}
use Rattle.pixel_format.proofs.format.Format.tint_row_32.Goals as goal

pub loop-i-preserved : goal.loop-i-preserved
loop-i-preserved g c =
    let f : PixelFormat = c.args.self.now in
    rw (c.write_u32.ensures, c.pixel.ensures.value)
    (row_goes_on (λ colour. g.T.ByteOrder.bytes_of 4 (tint f colour)) 4 c.args.colours.now c.loop-i.out _ _ c.loop-i.i (4 * c.loop-i.i) (omega arith) (omega arith)
    (g.met.T.ByteOrder.length_bytes 4 (tint f (get_or c.args.colours.now c.loop-i.i 0))) (omega arith) c.loop-i.invariant)

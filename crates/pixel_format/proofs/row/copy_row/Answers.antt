use Rattle.std.proofs.Common.{◌*◌, get_or, arith}
use Rattle.pixel_format.specs.PixelFormat.{host_format, tint, pixel_bytes}
use Rattle.pixel_format.proofs.Pixels.{pixel_size}
use Rattle.pixel_format.proofs.RowLemmas.{piece_goes_on}
use Rattle.pixel_format.proofs.ScalingLemmas.{tint_of_host}
use Rattle.pixel_format.proofs.row.copy_row.Goals as goal

pub loop-i-preserved : goal.loop-i-preserved
loop-i-preserved c =
    rw (c.write_u32.ensures, ← tint_of_host _)
    (piece_goes_on (λ colour. pixel_bytes host_format (tint host_format colour)) 4 c.args.colours.now c.loop-i.out _ c.loop-i.i (4 * c.loop-i.i) (omega arith) (omega arith)
    (pixel_size host_format (tint host_format (get_or c.args.colours.now c.loop-i.i 0))) (omega arith) c.loop-i.invariant)

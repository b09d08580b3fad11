use Rattle.std.proofs.Common.{◌≡◌, ◌*◌, take}
use Rattle.pixel_format.specs.PixelFormat.{row_bytes, host_format}
use Rattle.pixel_format.proofs.row.copy_row.Given as goal

abbrev pub invariant-loop-i : goal.invariant-loop-i
invariant-loop-i l = take (4 * l.i) l.out ≡ row_bytes host_format (take l.i l.colours)

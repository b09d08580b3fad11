use Rattle.std.proofs.Common.{◌≡◌, take, map}
use Rattle.pixel_format.specs.PixelFormat.{tint, host_format}
use Rattle.pixel_format.proofs.row.mask_values.Given as goal

abbrev pub invariant-loop-i : goal.invariant-loop-i
invariant-loop-i l = take l.i l.values ≡ map (tint host_format) (take l.i l.colours)

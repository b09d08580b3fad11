use Rattle.std.proofs.Common.{◌≡◌, take, map}
use Rattle.pixel_format.specs.PixelFormat.{tint}
use Rattle.pixel_format.proofs.format.Format.tint_values_by.Given as goal

abbrev pub invariant-loop-i : goal.invariant-loop-i
invariant-loop-i g l = take l.i l.values ≡ map (tint l.self) (take l.i l.colours)

use Rattle.std.proofs.Common.{◌≡◌, ◌*◌, take}
use Rattle.std.specs.List.{flat_map}
use Rattle.pixel_format.specs.PixelFormat.{tint}
use Rattle.pixel_format.proofs.format.Format.tint_row_16.Given as goal

abbrev pub invariant-loop-i : goal.invariant-loop-i
invariant-loop-i g l = take (2 * l.i) l.out ≡ flat_map (λ colour. g.T.ByteOrder.bytes_of 2 (tint l.self colour)) (take l.i l.colours)

use Rattle.std.proofs.Common.{◌≡◌, ◌*◌, take}
use Rattle.std.specs.List.{flat_map}
use Rattle.pixel_format.specs.PixelFormat.{pixel_bytes, pixel_len}
use Rattle.pixel_format.proofs.format.Format.put_each.Given as goal

abbrev pub invariant-loop-i : goal.invariant-loop-i
invariant-loop-i l = take (pixel_len l.self * l.i) l.out ≡ flat_map (pixel_bytes l.self) (take l.i l.values)

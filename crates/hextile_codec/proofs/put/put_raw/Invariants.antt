use Rattle.std.proofs.Common.{◌≡◌, ◌+◌, ◌*◌, ◌++◌, ◌∷◌, take}
use Rattle.pixel_format.specs.PixelFormat.{pixel_len}
use Rattle.raster.specs.Screen.{value_at, part_of, values_of}
use Rattle.raster.specs.Encoding.{raw_bytes}
use Rattle.hextile_codec.proofs.put.put_raw.Given as goal

abbrev pub invariant-loop-y : goal.invariant-loop-y
invariant-loop-y l =
    record {
      at : l.at ≡ l.used + 1 + pixel_len l.format * (l.y * l.tile.w);
      bytes : take l.at l.out ≡ take l.used l.fn.out ++ 1 ∷ raw_bytes l.format (take (l.y * l.tile.w) (values_of l.tile.w l.tile.h (part_of l.tile (value_at l.w l.values))));
    }

use Rattle.std.proofs.Common.{◌≡◌, ◌+◌, ◌*◌, ◌++◌, map, take}
use Rattle.std.specs.List.{flat_map}
use Rattle.pixel_format.specs.PixelFormat.{pixel_len}
use Rattle.raster.specs.Encoding.{coloured_bytes}
use Rattle.hextile_codec.specs.TileKinds.{subrect_of}
use Rattle.hextile_codec.proofs.put.put_coloured_runs.Given as goal

abbrev pub invariant-loop-run : goal.invariant-loop-run
invariant-loop-run l =
    record {
      at : l.at ≡ l.used + (pixel_len l.format + 2) * l.run-index;
      bytes : take l.at l.out ≡ take l.used l.fn.out ++ flat_map (coloured_bytes l.format) (map subrect_of (take l.run-index l.runs));
    }

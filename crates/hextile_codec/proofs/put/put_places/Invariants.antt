use Rattle.std.proofs.Common.{◌≡◌, ◌+◌, ◌*◌, ◌++◌, map, take}
use Rattle.std.specs.List.{flat_map}
use Rattle.raster.specs.Encoding.{place_bytes}
use Rattle.hextile_codec.specs.TileKinds.{subrect_of}
use Rattle.hextile_codec.proofs.put.put_places.Given as goal

abbrev pub invariant-loop-run : goal.invariant-loop-run
invariant-loop-run l =
    record {
      at : l.at ≡ l.used + 2 * l.run-index;
      bytes : take l.at l.out ≡ take l.used l.fn.out ++ flat_map place_bytes (map subrect_of (take l.run-index l.runs));
    }

use Rattle.std.proofs.Common.{◌≡◌}
use Rattle.codec_tests.proofs.hextile_fed.feed.Given as goal

abbrev pub invariant-loop-piece : goal.invariant-loop-piece
invariant-loop-piece l =
    record {
      wide : l.raster.width ≡ l.fn.raster.width;
      high : l.raster.height ≡ l.fn.raster.height;
      across : l.reader.width ≡ l.fn.raster.width;
      down : l.reader.height ≡ l.fn.raster.height;
    }

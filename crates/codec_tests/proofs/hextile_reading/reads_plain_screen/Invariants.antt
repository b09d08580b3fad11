use Rattle.std.proofs.Common.{◌≡◌}
use Rattle.codec_tests.proofs.hextile_reading.reads_plain_screen.Given as goal

abbrev pub invariant-loop : goal.invariant-loop
invariant-loop l =
    record {
      wide : l.raster.width ≡ 4096;
      high : l.raster.height ≡ 4096;
      across : l.reader.width ≡ 4096;
      down : l.reader.height ≡ 4096;
    }

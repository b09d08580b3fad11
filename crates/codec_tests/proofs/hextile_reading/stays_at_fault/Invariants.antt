use Rattle.std.proofs.Common.{◌≡◌}
use Rattle.codec_tests.proofs.hextile_reading.stays_at_fault.Given as goal

abbrev pub invariant-loop : goal.invariant-loop
invariant-loop l =
    record {
      wide : l.raster.width ≡ l.reader.width;
      high : l.raster.height ≡ l.reader.height;
    }

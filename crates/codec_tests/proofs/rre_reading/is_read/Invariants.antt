use Rattle.std.proofs.Common.{◌≡◌}
use Rattle.codec_tests.proofs.rre_reading.is_read.Given as goal

abbrev pub invariant-loop-piece : goal.invariant-loop-piece
invariant-loop-piece l = record {
  wide : l.raster.width ≡ 3;
  high : l.raster.height ≡ 1;
  across : l.reader.width ≡ 3;
  down : l.reader.height ≡ 1;
}

use Rattle.std.proofs.Common.{◌≡◌}
use Rattle.c_trial.proofs.fuzz.codecs.read.Given as goal

abbrev pub invariant-loop : goal.invariant-loop
invariant-loop g l = (l.raster.width ≡ g.R.CodecReader.width l.reader) × (l.raster.height ≡ g.R.CodecReader.height l.reader)

use Rattle.std.proofs.Common.{[], ap}
use Rattle.raster.specs.Encoding.{drawn}
use Rattle.raster.specs.Reader.{values_read}
use Rattle.rre_codec.proofs.reading.ReaderCodecReader.begin.Goals as goal

pub returns-clause-begins : goal.returns-clause-begins
returns-clause-begins c = ap (values_read c.args.w c.args.h drawn) (c.new.ensures.begins (record { background = 0; subrects = [] }))

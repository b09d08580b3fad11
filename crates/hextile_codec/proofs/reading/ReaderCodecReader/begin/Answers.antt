use Rattle.std.proofs.Common.{ap}
use Rattle.raster.specs.Encoding.{tiled}
use Rattle.raster.specs.Reader.{values_read}
use Rattle.hextile_codec.specs.Ahead.{blank}
use Rattle.hextile_codec.proofs.reading.ReaderCodecReader.begin.Goals as goal

pub returns-clause-begins : goal.returns-clause-begins
returns-clause-begins c = ap (values_read c.args.w c.args.h (tiled c.args.w c.args.h)) (c.new.ensures.begins blank)

pub returns-clause-stands : goal.returns-clause-stands
returns-clause-stands c keeps canvas = c.new.ensures.stands keeps canvas blank

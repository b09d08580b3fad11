use Rattle.std.proofs.Common.{arith}
use Rattle.rfb_wire.proofs.ViewerParts.{count_goes_on}
use Rattle.rfb_wire.proofs.client_reader.complete.encodings.Goals as goal

pub returns-in_default : goal.returns-in_default
returns-in_default c = count_goes_on c.from_be_bytes.result c.of.result c.args.b.now c.requires (omega arith) c.from_be_bytes.ensures c.of.ensures

use Rattle.std.proofs.Common.{arith}
use Rattle.rfb_wire.specs.Message.{choice_in}
use Rattle.rfb_wire.proofs.ViewerParts.{number_ends, number_goes_on}
use Rattle.rfb_wire.proofs.client_reader.complete.number.Goals as goal

pub returns-then-left-eq0 : goal.returns-then-left-eq0
returns-then-left-eq0 c = number_ends c.args.left c.args.found c.note-found.result (choice_in c.choice.result) c.from_be_bytes.result c.args.b.now c.requires c.if-left-eq0.true c.from_be_bytes.ensures c.note-found.ensures c.choice.ensures

pub returns-else-left-eq0 : goal.returns-else-left-eq0
returns-else-left-eq0 c = number_goes_on c.args.left c.args.found c.note-found.result c.from_be_bytes.result c.of.result c.args.b.now c.requires (omega arith) c.from_be_bytes.ensures c.note-found.ensures c.of.ensures

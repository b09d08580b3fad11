use Rattle.rfb_wire.proofs.ViewerParts.{fields_open}
use Rattle.rfb_wire.proofs.client_reader.state.State.wants_more.Goals as goal

pub returns-in-Fields-clause-value : goal.returns-in-Fields-clause-value
returns-in-Fields-clause-value c = rw c.in-Fields.is (fields_open c.in-Fields.fields c.left.result c.left.ensures.value c.left.ensures.some)

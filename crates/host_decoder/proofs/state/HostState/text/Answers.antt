use Rattle.host_decoder.proofs.Ends.{text_ends}
use Rattle.host_decoder.proofs.state.HostState.text.Goals as goal

pub returns-clause-stands : goal.returns-clause-stands
returns-clause-stands c =
    text_ends c.args.painter.now.width c.args.painter.now.height c.text.result c.args.text (cc (c.text.ensures, c.size-width.ensures.0, c.size-width.ensures.1, c.into_vec.ensures.value))

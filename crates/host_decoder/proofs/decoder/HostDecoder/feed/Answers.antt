use Rattle.std.proofs.Common.{◌∙◌}
use Rattle.host_decoder.proofs.FeedSteps.{faulty_answer, faulty_closed}
use Rattle.host_decoder.proofs.decoder.HostDecoder.feed.Goals as goal

pub returns-clause-faulty : goal.returns-clause-faulty
returns-clause-faulty c screen fault stands =
    let w = c.self.inside.width in
    let h = c.self.inside.height in
    let s = rw (← c.self.view_is) at stands in
    let closed = faulty_closed w h c.self.inside.state screen c.args.painter.now fault s in
    let still = c.feed.ensures.closed closed in
    (still.0 ∙ faulty_answer w h c.self.inside.state screen c.args.painter.now 0 fault closed s, rw (still.1, still.2) s, still.2)

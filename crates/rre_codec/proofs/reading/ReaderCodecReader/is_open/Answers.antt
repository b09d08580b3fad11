use Rattle.std.proofs.Common.{◌∙◌}
use Rattle.rre_codec.proofs.Going.{open_is}
use Rattle.rre_codec.proofs.reading.ReaderCodecReader.is_open.Goals as goal

pub returns : goal.returns
returns c sofar =
    let r = c.self.inside in
    rw (← c.self.view_is) (c.is_open.ensures ∙ open_is r.format r.width r.height r.stage sofar r.begun.items c.self.invariant)

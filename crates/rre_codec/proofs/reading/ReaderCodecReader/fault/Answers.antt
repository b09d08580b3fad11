use Rattle.std.proofs.Common.{sym}
use Rattle.rre_codec.proofs.Going.{no_fault, at_fault}
use Rattle.rre_codec.proofs.reading.ReaderCodecReader.fault.Goals as goal

pub returns-in-Outside : goal.returns-in-Outside
returns-in-Outside c sofar = rw (← c.self.view_is) (rw c.in-Outside.is (sym (at_fault c.self.inside.begun.items)))

pub returns-in_default : goal.returns-in_default
returns-in_default c sofar =
    let r = c.self.inside in
    rw (← c.self.view_is) (sym (no_fault r.format r.width r.height r.stage sofar r.begun.items c.in_default.not-Outside c.self.invariant))

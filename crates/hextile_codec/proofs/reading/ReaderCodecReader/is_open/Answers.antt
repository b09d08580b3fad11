use Rattle.std.proofs.Common.{◌≤◌, ◌∙◌, not, ap, length, arith}
use Rattle.hextile_codec.specs.Carried.{carried_by}
use Rattle.hextile_codec.proofs.Standing.{open_before}
use Rattle.hextile_codec.proofs.reading.ReaderCodecReader.is_open.Goals as goal

pub returns-then-self : goal.returns-then-self
returns-then-self c sofar =
    let r = c.self.inside in
    let len : length r.begun.items ≤ length r.begun.items = omega arith in
    rw (← c.self.view_is)
    (ap not c.is_failed.ensures ∙ open_before r.format r.width r.height r.tiles r.tile r.area r.stage (length r.begun.items) (carried_by r.carried) sofar r.begun.items c.self.invariant len c.if-self.true)

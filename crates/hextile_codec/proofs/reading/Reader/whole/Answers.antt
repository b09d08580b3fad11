use Rattle.std.proofs.Common.{◌≤◌, length, arith}
use Rattle.hextile_codec.specs.Carried.{carried_by}
use Rattle.hextile_codec.proofs.Standing.{whole_there, shown_there}
use Rattle.hextile_codec.proofs.reading.Reader.whole.Goals as goal

pub returns-clause-whole : goal.returns-clause-whole
returns-clause-whole c sofar =
    let r = c.self.inside in
    let len : length r.begun.items ≤ length r.begun.items = omega arith in
    rw (← c.self.view_is) (whole_there r.format r.width r.height r.tiles r.tile r.area r.stage (length r.begun.items) (carried_by r.carried) sofar r.begun.items c.self.invariant len)

pub returns-clause-shows : goal.returns-clause-shows
returns-clause-shows c keep canvas sofar tiles stands done =
    let r = c.self.inside in
    let len : length r.begun.items ≤ length r.begun.items = omega arith in
    rw (← c.self.view_is)
    (shown_there keep r.format r.width r.height r.tiles r.tile r.area r.stage (length r.begun.items) (carried_by r.carried) sofar r.begun.items canvas tiles c.self.invariant len (rw (← c.self.view_is) at stands.before) (rw (← c.self.view_is) at done))

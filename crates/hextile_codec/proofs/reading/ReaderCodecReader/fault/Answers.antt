use Rattle.std.proofs.Common.{◌≤◌, ◌∙◌, Some, sym, ap, length, arith}
use Rattle.hextile_codec.specs.Carried.{carried_by}
use Rattle.hextile_codec.proofs.Standing.{fine_else, no_fault_there, fault_there}
use Rattle.hextile_codec.proofs.reading.ReaderCodecReader.fault.Goals as goal

pub returns-in_default : goal.returns-in_default
returns-in_default c sofar =
    let r = c.self.inside in
    let len : length r.begun.items ≤ length r.begun.items = omega arith in
    rw (← c.self.view_is) (sym (no_fault_there r.format r.width r.height r.tiles r.tile r.area r.stage (length r.begun.items) (carried_by r.carried) sofar r.begun.items c.self.invariant len (fine_else r.stage c.in_default.not-Failed)))

pub returns-in-Failed : goal.returns-in-Failed
returns-in-Failed c sofar =
    let r = c.self.inside in
    let place = rw c.in-Failed.is at c.self.invariant in
    rw (← c.self.view_is)
    (rw c.in-Failed.is (ap Some c.fault.ensures ∙ sym (fault_there r.format r.width r.height r.tiles r.tile r.area c.in-Failed.flaw (length r.begun.items) (carried_by r.carried) sofar r.begun.items place)))

-- What is kept is what the invariant says, with what the tape says of its file.
use Rattle.record_link.proofs.Grown.{is_kept_now}
use Rattle.record_link.proofs.growing.GrowingRecording.is_kept.Goals as goal

pub returns-clause-kept : goal.returns-clause-kept
returns-clause-kept g c = rw (← c.self.view_is) (is_kept_now _ c.is_tape.ensures c.self.invariant)

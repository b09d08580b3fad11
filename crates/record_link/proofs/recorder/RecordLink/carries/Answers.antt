-- What is kept is more than what is promised.
use Rattle.record_link.proofs.Linking.{is_carried}
use Rattle.record_link.proofs.recorder.RecordLink.carries.Goals as goal

pub returns : goal.returns
returns g c = rw (← c.self.view_is) (is_carried _ c.is_kept.ensures.kept c.is_kept.ensures.indexed c.self.invariant.1)

-- That nothing is read after a close frame: the induction stands in proofs/Breaches.antt.
use Rattle.web_frames.proofs.Breaches.{nothing_after_a_close}
use Rattle.web_frames.proofs.law.nothing_is_read_after_a_close.Goals as goal

pub returns : goal.returns
returns c = nothing_after_a_close

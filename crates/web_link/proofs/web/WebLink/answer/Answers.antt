use Rattle.std.proofs.Common.{arith, ◌∙◌}
use Rattle.web_link.proofs.Carrying.{carries_pong}
use Rattle.web_link.proofs.web.WebLink.answer.Goals as goal

pub invariant_of-self : goal.invariant_of-self
invariant_of-self g c = (
  c.self.invariant.0,
  c.self.invariant.1,
  rw c.take_ping.ensures
      (carries_pong _ c.set.new.self c.as_slice.result.now c.self.invariant.2 (c.is_empty.ensures.0 c.if-is_empty.true) c.in-Between.is (omega (arith, c.as_slice.ensures.fits))
      (c.set.ensures ∙ (c.as_slice-in-Some.ensures.value ∙ c.control_frame-frame.ensures))),
)

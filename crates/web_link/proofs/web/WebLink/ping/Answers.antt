use Rattle.std.proofs.Common.{◌∙◌}
use Rattle.web_link.proofs.Carrying.{carries_ping}
use Rattle.web_link.proofs.web.WebLink.ping.Goals as goal

pub invariant_of-self : goal.invariant_of-self
invariant_of-self g c = (
  c.self.invariant.0,
  c.self.invariant.1,
  carries_ping _ c.set.new.self c.self.invariant.2 (c.is_empty.ensures.0 c.if-is_empty.true) c.in-Between.is (c.set.ensures ∙ (c.as_slice.ensures.value ∙ c.control_frame-frame.ensures)),
)

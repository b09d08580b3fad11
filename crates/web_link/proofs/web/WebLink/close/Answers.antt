use Rattle.std.proofs.Common.{arith, ap, ◌∙◌, length}
use Rattle.web_link.proofs.Carrying.{carries_close}
use Rattle.web_link.proofs.web.WebLink.close.Goals as goal

pub invariant_of-self : goal.invariant_of-self
invariant_of-self g c = (
  c.self.invariant.0,
  c.self.invariant.1,
  carries_close _ c.set.new.self c.to_be_bytes.result c.self.invariant.2 (c.is_empty.ensures.0 c.if-is_empty.true) c.in-Between.is (omega (arith, ap length c.to_be_bytes.ensures))
      (c.set.ensures ∙ (c.as_slice.ensures.value ∙ c.control_frame-frame.ensures)),
)

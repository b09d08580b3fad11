use Rattle.std.proofs.Common.{arith, ap, ◌∙◌}
use Rattle.web_link.specs.Web.{Web}
use Rattle.web_link.proofs.Carrying.{carries_head}
use Rattle.web_link.proofs.web.WebLink.begin_message.Goals as goal

pub invariant_of-self : goal.invariant_of-self
invariant_of-self g c = (
  c.self.invariant.0,
  c.self.invariant.1,
  carries_head _ c.set.new.self c.min-size.result c.self.invariant.2 (ap (λ (w : Web). w.unsent) c.self.view_is ∙ c.requires.sent) (ap (λ (w : Web). w.saying) c.self.view_is ∙ c.requires.between)
      (omega (arith, c.min-size.ensures, c.requires.some)) (omega (arith, c.min-size.ensures)) (c.set.ensures ∙ (c.as_slice.ensures.value ∙ c.binary_head-head.ensures)),
)

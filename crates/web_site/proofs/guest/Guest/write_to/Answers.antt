-- What was asked stays the same.
use Rattle.std.proofs.Common.{sym, subst, List}
use Rattle.std.specs.Arc.{arc_value}
use Rattle.http_server.specs.Exchange.{Call}
use Rattle.web_site.specs.Guests.{IsTold}
use Rattle.web_site.proofs.guest.Guest.write_to.Goals as goal

pub invariant_of-self : goal.invariant_of-self
invariant_of-self g c = subst (λ (cs : List Call). ∥ IsTold (arc_value c.self.inside.site) cs ∥₁) (sym c.write_once.ensures.calls) c.self.invariant

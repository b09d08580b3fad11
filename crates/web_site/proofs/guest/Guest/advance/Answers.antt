-- What was answered before, and what is answered now, is the site's.
use Rattle.std.proofs.Common.{sym, subst, List}
use Rattle.http_server.specs.Exchange.{Call}
use Rattle.http_server.specs.Connection.{history}
use Rattle.web_site.specs.declared.site.Site.{Site}
use Rattle.web_site.specs.Guests.{IsTold}
use Rattle.web_site.proofs.Letting.{told_further}
use Rattle.web_site.proofs.guest.Guest.advance.Goals as goal

pub invariant_of-self : goal.invariant_of-self
invariant_of-self c =
    subst (λ (s : Site). ∥ IsTold s (history c.advance.new.self).calls ∥₁) c.deref.ensures
    (told_further _ _ (history c.self.inside.connection).calls (history c.advance.new.self).calls c.advance.ensures.calls
    (subst (λ (s : Site). ∥ IsTold s (history c.self.inside.connection).calls ∥₁) (sym c.deref.ensures) c.self.invariant))

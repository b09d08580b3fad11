-- A connection that was handed over has served what `http_server` says, and the site gave its answers.
use Rattle.std.proofs.Common.{sym, subst, ◌∙◌, arith}
use Rattle.std.proofs.lemmas.Bool.Decides.{nat_tests}
use Rattle.std.proofs.lemmas.List.{nil_from_length}
use Rattle.http_server.proofs.Theorems.{always_served}
use Rattle.web_site.specs.Guests.{Asking, IsLetIn}
use Rattle.web_site.proofs.Letting.{lets_in}
use Rattle.web_site.proofs.guest.Guest.is_let_in.Goals as goal

pub returns : goal.returns
returns c = λ t.
    let is_upgraded = sym c.state.ensures ∙ c.in-Upgraded.is in
    let nothing = sym c.into_buffers-unread.ensures.unread ∙ nil_from_length c.into_buffers-unread.result.0.items (grind (arith, nat_tests, c.is_empty.ensures, c.if-not-is_empty.false)) in
    subst (λ (a : Asking). ∥ IsLetIn a ∥₁) c.self.view_is (lets_in _ _ _ is_upgraded nothing c.self.invariant (always_served c.self.inside.connection))

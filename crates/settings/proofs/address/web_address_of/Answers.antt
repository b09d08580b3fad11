use Rattle.std.proofs.Common.{subst, sym, List, ℕ}
use Rattle.settings.specs.Addresses.{IsBindText}
use Rattle.settings.proofs.address.web_address_of.Goals as goal

pub returns-in-Err-clause-err : goal.returns-in-Err-clause-err
returns-in-Err-clause-err c = λ ip is. c.in-Err.ensures.err ip (subst (λ (t : List ℕ). IsBindText t ip) (sym c.bind_of-bind.ensures) is)

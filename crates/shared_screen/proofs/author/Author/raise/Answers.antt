use Rattle.std.proofs.Common.{[], ◌∷◌, ◌++◌, sym, subst}
use Rattle.shared_screen.specs.History.{Change, Raise, IsLegal, IsBacked}
use Rattle.shared_screen.proofs.Histories.{legal_raise, backed_raise}
use Rattle.shared_screen.proofs.Adding.{IsAllowed}
use Rattle.shared_screen.proofs.author.Author.raise.Goals as goal

pub add-requires-clause-allowed : goal.add-requires-clause-allowed
add-requires-clause-allowed g c =
    let published = g.J.Publicity.published in let now = c.args.self.now in let n = c.args.number in let next = c.requires.next in
    let legal = subst IsLegal c.self.view_is c.self.invariant.1 in let backed = subst (IsBacked published) c.self.view_is c.self.invariant.2 in
    let may : IsAllowed published (now ++ Raise n ∷ []) = (legal_raise now n legal next.0 next.1, backed_raise published now n backed c.requires.published next.0 next.1) in
    subst (λ (e : Change). IsAllowed published (now ++ e ∷ [])) (sym c.plain-asked.ensures.1) may

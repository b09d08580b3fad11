use Rattle.std.proofs.Common.{[], ◌∷◌, ◌++◌, sym, subst}
use Rattle.shared_screen.specs.History.{Change, Put, IsLegal, IsBacked}
use Rattle.shared_screen.proofs.Histories.{legal_put, backed_put}
use Rattle.shared_screen.proofs.Adding.{IsAllowed}
use Rattle.shared_screen.proofs.author.Author.put.Goals as goal

pub add-requires-clause-allowed : goal.add-requires-clause-allowed
add-requires-clause-allowed g c =
    let published = g.J.Publicity.published in let now = c.args.self.now in let u = c.args.patch.now.update in
    let legal = subst IsLegal c.self.view_is c.self.invariant.1 in let backed = subst (IsBacked published) c.self.view_is c.self.invariant.2 in
    let may : IsAllowed published (now ++ Put u ∷ []) = (legal_put now u legal c.requires.raised, backed_put published now u legal backed) in
    subst (λ (e : Change). IsAllowed published (now ++ e ∷ [])) (sym c.plain-asked.ensures.1) may

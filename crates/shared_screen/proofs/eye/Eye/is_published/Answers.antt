use Rattle.std.proofs.Common.{◌≡◌, ◌≤◌, ◌-◌, List, length, take, drop, sym, subst, arith, ⊎_elim}
use Rattle.std.proofs.lemmas.List.{length-take-le, take-append-drop}
use Rattle.raster.specs.Update.{Update}
use Rattle.shared_screen.specs.History.{puts_of, tally_of, ArePublished}
use Rattle.shared_screen.proofs.Histories.{counts, published_of}
use Rattle.shared_screen.proofs.eye.Eye.is_published.Goals as goal

pub returns : goal.returns
returns g c =
    let me = c.self.inside in let published = g.J.Publicity.published in
    let all : List Update = puts_of me.front in let mine : List Update = take me.number all in
    let long : length mine ≡ me.number = length-take-le me.number all c.self.invariant in
    let near : length all - 1 ≤ tally_of me.front = ⊎_elim (λ d. omega arith) (λ d. omega arith) (counts me.front c.is_legal.ensures).1 in
    let fits = c.self.invariant in
    let known : ArePublished published (length mine - 1) mine =
    published_of published (tally_of me.front) (length mine - 1) all mine (drop me.number all, sym (take-append-drop me.number all)) (omega arith) (omega arith) c.is_backed.ensures in
    subst (λ (l : List Update). ArePublished published (length l - 1) l) c.self.view_is known

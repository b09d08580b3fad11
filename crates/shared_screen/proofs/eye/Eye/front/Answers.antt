-- What an eye knows are the first updates of its front.
use Rattle.std.proofs.Common.{List, take, drop, sym, subst}
use Rattle.std.proofs.lemmas.List.{take-append-drop}
use Rattle.raster.specs.Update.{Update}
use Rattle.reflect_core.specs.Sequential.{Begins}
use Rattle.shared_screen.specs.History.{Change, puts_of}
use Rattle.shared_screen.proofs.eye.Eye.front.Goals as goal

pub returns : goal.returns
returns g c =
    let me = c.self.inside in let all : List Update = puts_of me.front in
    let begun : Begins (take me.number all) all = (drop me.number all, sym (take-append-drop me.number all)) in
    subst (λ (l : List Update). Begins l (puts_of c.again.result)) c.self.view_is
    (subst (λ (h : List Change). Begins (take me.number all) (puts_of h)) (sym c.again.ensures) begun)

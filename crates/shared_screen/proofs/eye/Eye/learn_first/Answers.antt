use Rattle.std.proofs.Common.{List, take, subst, sym, arith}
use Rattle.raster.specs.Update.{Update}
use Rattle.reflect_core.specs.Sequential.{Begins}
use Rattle.shared_screen.specs.History.{Change, puts_of}
use Rattle.shared_screen.proofs.Knowing.{first_more}
use Rattle.shared_screen.proofs.eye.Eye.learn_first.Goals as goal

pub returns-then-self-number-clause-mine : goal.returns-then-self-number-clause-mine
returns-then-self-number-clause-mine g c =
    let me = c.self.inside in let less = c.if-self-number.true in let both = c.learn.new.self in
    let mine : Begins me.front both = subst (λ (l : List Change). Begins l both) c.again-both.ensures c.learn.ensures.mine in
    let more = first_more me.front c.args.front.now both me.number c.args.number c.self.invariant c.requires mine c.learn.ensures.told (omega arith) in
    subst (λ (l : List Change). Begins c.args.self.now (take c.args.number (puts_of l))) (sym c.again.ensures)
    (subst (λ (l : List Update). Begins l (take c.args.number (puts_of c.args.front.now))) c.self.view_is more)

pub returns-clause-told : goal.returns-clause-told
returns-clause-told g c =
    let me = c.self.inside in let both = c.learn.new.self in
    let mine : Begins me.front both = subst (λ (l : List Change). Begins l both) c.again-both.ensures c.learn.ensures.mine in
    let more = first_more c.args.front.now me.front both c.args.number me.number c.requires c.self.invariant c.learn.ensures.told mine c.if-self-number.false in
    subst (λ (l : List Update). Begins (take c.args.number (puts_of c.args.front.now)) l) c.self.view_is more

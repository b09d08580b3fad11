use Rattle.shared_screen.proofs.Knowing.{goes_on}
use Rattle.shared_screen.proofs.eye.Eye.cut.Goals as goal

pub returns-clause-grows : goal.returns-clause-grows
returns-clause-grows g c =
    let me = c.self.inside in
    goes_on c.args.self.now me.front c.again-both.result _ c.front-front.result c.learn.new.self me.number c.number-number.result
    c.self.view_is c.self.invariant c.again-both.ensures c.front-front.ensures c.learn.ensures.mine c.learn.ensures.told c.number-number.ensures.number c.if-number-self.false

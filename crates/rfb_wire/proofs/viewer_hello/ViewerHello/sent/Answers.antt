use Rattle.std.proofs.Common.{arith}
use Rattle.rfb_wire.proofs.GreetingSaid.{more_sent}
use Rattle.rfb_wire.proofs.viewer_hello.ViewerHello.sent.Goals as goal

pub overflow_add-self : goal.overflow_add-self
overflow_add-self c =
    let more = more_sent c.self.inside.w c.self.inside.h c.self.inside.said.items c.self.inside.begun.items c.self.inside.sent c.args.count c.args.self.now (record { prepared = c.self.invariant.0; within = c.self.invariant.3 }) c.self.view_is c.requires in
    omega (arith, more.1, c.self.invariant.1)

pub invariant_of-self : goal.invariant_of-self
invariant_of-self c =
    let more = more_sent c.self.inside.w c.self.inside.h c.self.inside.said.items c.self.inside.begun.items c.self.inside.sent c.args.count c.args.self.now (record { prepared = c.self.invariant.0; within = c.self.invariant.3 }) c.self.view_is c.requires in
    (c.self.invariant.0, c.self.invariant.1, c.self.invariant.2, more.0)

use Rattle.std.proofs.Common.{◌<◌, arith, ap, length}
use Rattle.rfb_wire.proofs.Greetings.{wants_until}
use Rattle.rfb_wire.proofs.GreetingSaid.{due_more}
use Rattle.rfb_wire.proofs.viewer_hello.ViewerHello.step.Goals as goal

pub push-requires : goal.push-requires
push-requires c =
    let same = ap (λ v. length v.begun) c.self.view_is in
    let lt = wants_until c.args.self.now.begun (omega (arith, same, c.self.invariant.2)) c.requires in
    (omega arith, omega (arith, same, lt))

pub invariant_of-self : goal.invariant_of-self
invariant_of-self c =
    let same = ap (λ v. length v.begun) c.self.view_is in
    let lt : length c.self.inside.begun.items < 14 = omega (arith, same, wants_until c.args.self.now.begun (omega (arith, same, c.self.invariant.2)) c.requires) in (
      c.self.invariant.0,
      c.self.invariant.1,
      omega (arith, lt, c.push.ensures.len),
      rw c.push.ensures.items
          (due_more c.self.inside.w c.self.inside.h c.self.inside.said.items c.self.inside.begun.items c.self.inside.sent c.args.byte (record { prepared = c.self.invariant.0; within = c.self.invariant.3 })),
    )

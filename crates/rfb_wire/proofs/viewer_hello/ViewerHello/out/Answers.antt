use Rattle.std.proofs.Common.{ap, sym, length, ◌∙◌}
use Rattle.rfb_wire.specs.Greeting.{due}
use Rattle.rfb_wire.proofs.Greetings.{not_some}
use Rattle.rfb_wire.proofs.GreetingSaid.{part_to_send}
use Rattle.rfb_wire.proofs.viewer_hello.ViewerHello.out.Goals as goal

pub returns : goal.returns
returns c =
    let none = sym c.fault.ensures ∙ not_some c.fault.result (sym c.is_some.ensures ∙ c.if-is_some.false) in
    let end = c.due.ensures ∙ ap (λ xs. due (length xs) c.len.result) c.as_slice-said.ensures.value ∙ ap (due (length c.self.inside.said.items)) c.len.ensures.value in
    rw c.as_slice-said.ensures.value
    (part_to_send c.self.inside.w c.self.inside.h c.self.inside.said.items c.self.inside.begun.items c.self.inside.sent c.due.result c.args.self.now (record { prepared = c.self.invariant.0; within = c.self.invariant.3 }) c.self.view_is none end)

use Rattle.std.proofs.Common.{sym, ap, drop, ◌∙◌}
use Rattle.rfb_wire.proofs.Greetings.{not_some}
use Rattle.rfb_wire.proofs.JoiningSaid.{all_to_send, rest_of, said_is}
use Rattle.rfb_wire.proofs.host_hello.HostHello.out.Goals as goal

pub returns-clause-value : goal.returns-clause-value
returns-clause-value c =
    let none = sym c.fault.ensures ∙ not_some c.fault.result (sym c.is_some.ensures ∙ c.if-is_some.false) in
    let talk = c.self.inside.talk in
    rw (← c.self.view_is) (rest_of c.as_slice.result.now talk.sent ∙ (ap (drop talk.sent) c.as_slice.ensures.value ∙ all_to_send talk none))

pub returns-clause-said : goal.returns-clause-said
returns-clause-said c =
    let talk = c.self.inside.talk in
    rw (← c.self.view_is) (λ stream heard none. rest_of c.as_slice.result.now talk.sent ∙ ap (drop talk.sent) (c.as_slice.ensures.value ∙ said_is talk stream c.self.invariant heard))

-- A request is made, behind what was said.
use Rattle.std.proofs.Common.{◌≡◌, ◌++◌, Bool, false, drop, refl, sym, subst, ap, ◌∙◌}
use Rattle.rfb_wire.specs.Handshake.{Joined}
use Rattle.rfb_wire.specs.Writing.{request_bytes}
use Rattle.record_link.specs.Talking.{Talk, IsFree, choices, whole_screen}
use Rattle.record_link.proofs.Talked.{asks_saying, asked_are}
use Rattle.record_link.proofs.talk.RecorderTalk.ask.Goals as goal

pub returns-clause-says : goal.returns-clause-says
returns-clause-says c =
    let joined : Joined = c.args.joined.now in
    let kind : Bool = c.args.incremental in
    let old : Talk = record { hello = c.self.inside.hello; is_asked = c.self.inside.is_asked; taken = c.self.inside.taken.bytes; pending = drop c.self.inside.start c.self.inside.messages } in
    let free : IsFree old joined = subst (λ (t : Talk). IsFree t joined) (sym c.self.view_is) c.requires.free in
    let first : old.is_asked ≡ false → kind ≡ false = subst (λ (t : Talk). t.is_asked ≡ false → kind ≡ false) (sym c.self.view_is) c.requires.first in
    let messages : c.messages_of-self-inside.result ≡ choices ++ request_bytes kind (whole_screen joined)
    = c.messages_of-self-inside.ensures ∙ ap (λ (j : Joined). choices ++ request_bytes kind (whole_screen j)) c.joined.view_is in
    let pending = asked_are old.is_asked (request_bytes kind (whole_screen joined)) (drop c.start_of-self-inside.result c.messages_of-self-inside.result) c.messages_of-self-inside.result c.start_of-self-inside.result c.start_of-self-inside.ensures.value messages refl in
    rw (← c.self.view_is) (λ heard kinds h. asks_saying old _ joined kind heard kinds free refl refl refl pending first h)

-- The session takes what comes next of the handshake.
use Rattle.std.proofs.Common.{◌≡◌, ◌<◌, ◌≤◌, ◌++◌, List, ℕ, length, take, drop, refl, sym, subst, ap, ◌∙◌, arith}
use Rattle.rfb_wire.specs.Joining.{to_send}
use Rattle.record_link.specs.Talking.{Talk}
use Rattle.record_link.proofs.Talked.{says_hello}
use Rattle.record_link.proofs.talk.RecorderTalk.say_hello.Goals as goal

pub returns-clause-says : goal.returns-clause-says
returns-clause-says c =
    let count : ℕ = c.copy_front-count.result in
    let old : Talk = record { hello = c.self.inside.hello; is_asked = c.self.inside.is_asked; taken = c.self.inside.taken.bytes; pending = drop c.self.inside.start c.self.inside.messages } in
    let taken : c.note.new.self.bytes ≡ old.taken ++ take count c.out.result.now = c.note.ensures ∙ ap (λ (xs : List ℕ). old.taken ++ xs) (c.split_at.ensures.front ∙ c.copy_front-count.ensures.front) in
    let some : 0 < length (to_send c.self.inside.hello) = subst (λ (t : Talk). 0 < length (to_send t.hello)) (sym c.self.view_is) c.requires in
    let fits : count ≤ length c.out.result.now = omega (arith, c.copy_front-count.ensures.count) in
    rw (← c.self.view_is) (λ heard kinds h. says_hello old _ c.out.result.now heard kinds count c.out.ensures.said c.out.ensures.value some fits c.sent.ensures refl taken refl h)

-- The session takes the first of the messages that are pending.
use Rattle.std.proofs.Common.{◌≡◌, ◌++◌, List, ℕ, take, drop, refl, sym, ap, ◌∙◌}
use Rattle.std.proofs.lemmas.List.{drop-drop}
use Rattle.record_link.specs.Talking.{Talk}
use Rattle.record_link.proofs.Talked.{says_messages}
use Rattle.record_link.proofs.talk.RecorderTalk.say_messages.Goals as goal

pub returns-clause-says : goal.returns-clause-says
returns-clause-says c =
    let count : ℕ = c.copy_front-count.result in
    let old : Talk = record { hello = c.self.inside.hello; is_asked = c.self.inside.is_asked; taken = c.self.inside.taken.bytes; pending = drop c.self.inside.start c.self.inside.messages } in
    let taken : c.note.new.self.bytes ≡ old.taken ++ take count old.pending = c.note.ensures ∙ ap (λ (xs : List ℕ). old.taken ++ xs) (c.split_at-2.ensures.front ∙ (c.copy_front-count.ensures.front ∙ ap (take count) c.split_at.ensures.back)) in
    rw (← c.self.view_is) (λ heard kinds h. says_messages old _ heard kinds count refl refl taken (sym (drop-drop count c.self.inside.start c.self.inside.messages)) h)

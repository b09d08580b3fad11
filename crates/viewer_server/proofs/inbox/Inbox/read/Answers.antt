use Rattle.std.proofs.Common.{◌≡◌, sym, ap, ◌∙◌, drop, take, List, ℕ}
use Rattle.viewer_server.specs.Steps.{Unpassed}
use Rattle.viewer_server.proofs.Reading.{reads_up_to, reads_to_fault, read_on, all_dropped}
use Rattle.viewer_server.proofs.inbox.Inbox.read.Goals as goal

pub returns-in-Ok-clause-reads : goal.returns-in-Ok-clause-reads
returns-in-Ok-clause-reads c =
    let is : c.args.self.now.unread ≡ drop c.self.inside.start (take c.self.inside.end c.self.inside.bytes) = ap (λ (box : Unpassed). box.unread) (sym c.self.view_is) in
    reads_up_to c.args.session.now c.feed-fed.new.self c.take_input.new.self c.args.self.now _ c.unread.result.now c.in-Ok.used c.requires (sym c.unread.ensures) c.in-Ok.ensures.ok c.take_input.ensures.others
    (read_on (take c.self.inside.end c.self.inside.bytes) c.self.inside.start c.in-Ok.used ∙ ap (λ (t : List ℕ). drop c.in-Ok.used t) (sym is ∙ sym c.unread.ensures))
    c.take_input.ensures.value

pub returns-in-Err-clause-reads : goal.returns-in-Err-clause-reads
returns-in-Err-clause-reads c =
    reads_to_fault c.args.session.now c.feed-fed.new.self c.take_input.new.self c.args.self.now _ c.unread.result.now c.in-Err.fault c.requires (sym c.unread.ensures) c.in-Err.ensures.err c.take_input.ensures.others
    (all_dropped c.self.inside.end c.self.inside.bytes c.self.invariant.1) c.take_input.ensures.value

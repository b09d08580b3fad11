-- The head was given, so the text is next.
use Rattle.std.proofs.Common.{◌-◌, ap, ◌∙◌, arith, take, drop}
use Rattle.std.proofs.lemmas.List.{length-take}
use Rattle.host_writer.specs.Saying.{text_in}
use Rattle.host_writer.proofs.Sayings.{all_of_it, front_of_text}
use Rattle.host_writer.proofs.saying.Saying.front.Goals as goal

pub returns-clause-value : goal.returns-clause-value
returns-clause-value c =
    let inside = c.self.inside in
    rw (← c.self.view_is)
    (all_of_it _ _ (front_of_text (take inside.len inside.head) (text_in inside.text) c.split_at-2.result.1.now inside.given (inside.given - inside.len) (omega (arith, length-take inside.len inside.head, c.if-self.false, c.self.invariant.0))
    (c.split_at-2.ensures.back ∙ ap (λ xs. drop (inside.given - inside.len) xs) c.text_bytes.ensures)))

use Rattle.std.proofs.Common.{◌≡◌, ℕ, ◌++◌, ◌≤◌, List, take, length, arith, ap, sym, refl, ◌∙◌}
use Rattle.std.proofs.lemmas.List.{length-take-le}
use Rattle.web_link.specs.Web.{Web}
use Rattle.web_link.proofs.Said.{after_payload, after_some, after_all}
use Rattle.web_link.proofs.Carrying.{carries_given}
use Rattle.web_link.proofs.web.WebLink.give_payload.Goals as goal
use Rattle.web_link.proofs.web.WebLink.give_payload.Goals.{then-count-left, else-count-left}

pub invariant_of-self : goal.invariant_of-self
invariant_of-self g c =
    let front : List ℕ = c.split_at.result.0.now in
    let count : ℕ = c.in-Bytes.count in
    let some : 1 ≤ count = c.in-Bytes.ensures.0 in
    let within : count ≤ length front = c.in-Bytes.ensures.1 in
    let size : length (take count front) ≡ count = length-take-le count front within in
    let short : length front ≤ c.args.left = omega (arith, c.split_at.ensures.front_len, c.min.ensures) in
    let says : c.if-count-left.self ≡ after_payload c.args.left count =
    elim c.if-count-left.branch [
      | then-count-left w ↦ w.self-is ∙ sym (after_some c.args.left count w.if-count-left.true)
      | else-count-left w ↦ w.self-is ∙ sym (after_all c.args.left count w.if-count-left.false)
    ] in (
      c.self.invariant.0,
      c.self.invariant.1,
      carries_given _ _ _ c.if-count-left.self c.args.left (take count front) c.self.invariant.2 (ap (λ (w : Web). w.unsent) c.self.view_is ∙ c.requires.sent) (ap (λ (w : Web). w.saying) c.self.view_is ∙ c.requires.inside)
          (omega (arith, size, some)) (omega (arith, size, within, short)) c.in-Bytes.ensures.2 refl (c.note.ensures ∙ ap (λ (t : List ℕ). c.self.inside.given.bytes ++ t) c.split_at-in-Bytes.ensures.front)
          (says ∙ ap (after_payload c.args.left) (sym size)),
    )

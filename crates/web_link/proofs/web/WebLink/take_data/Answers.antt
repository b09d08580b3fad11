use Rattle.std.proofs.Common.{ℕ, ◌++◌, List, ap, sym, refl, ◌∙◌}
use Rattle.web_link.proofs.Carrying.{carries_taken}
use Rattle.web_link.proofs.web.WebLink.take_data.Goals as goal

pub invariant_of-self : goal.invariant_of-self
invariant_of-self g c = (
  c.self.invariant.0,
  c.self.invariant.1,
  carries_taken _ _ _ c.read-brought.new.self c.split_at_mut-front.result.0.now c.split_at.result.0.now c.self.invariant.2
      (c.in-Bytes.ensures.2 ∙ ap (λ (t : List ℕ). record (g.L.Link.state c.self.inside.link) { taken = (g.L.Link.state c.self.inside.link).taken ++ t }) (sym c.split_at_mut-front.ensures.front))
      c.read-brought.ensures.after (c.split_at.ensures.front ∙ c.read-brought.ensures.data) c.note.ensures refl,
)

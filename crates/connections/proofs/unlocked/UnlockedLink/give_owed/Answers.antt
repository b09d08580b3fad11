use Rattle.std.proofs.Common.{◌≡◌, ◌∙◌, ℕ, List, take, drop, ap, sym, rules}
use Rattle.std.proofs.lemmas.Slice.Eq.{bytes_eq-Decides}
use Rattle.connections.proofs.Owed.{gone_alike}
use Rattle.connections.proofs.unlocked.UnlockedLink.give_owed.Goals as goal

pub invariant_of-self : goal.invariant_of-self
invariant_of-self g c =
    let given : ℕ = c.self.inside.given in
    let own : List ℕ = c.self.inside.spoken.items in
    let count : ℕ = c.min-count.result in
    let first : List ℕ = c.split_at-2.result.0.now in
    let next : List ℕ = c.split_at-3.result.0.now in
    let back = c.split_at.ensures.back ∙ ap (drop given) c.as_slice.ensures.value in
    let same : first ≡ take count (drop given own) = (bytes_eq-Decides first next).0 (sym c.eq.ensures ∙ c.if-eq.true) ∙ (c.split_at-3.ensures.front ∙ ap (take count) back) in (
      record {
        given = gone_alike c.self.inside.said.bytes first own _ _ c.note.new.self.bytes given count same c.note.ensures c.self.invariant.0.given;
        taken = c.self.invariant.0.taken;
      },
      search rules,
      c.self.invariant.2,
      c.self.invariant.3,
      c.self.invariant.4,
    )

use Rattle.std.proofs.Common.{rules, ◌≡◌, ◌≤◌, ◌++◌, ℕ, List, length, take, sym, ap, subst, ◌∙◌, arith, length-append}
use Rattle.std.proofs.lemmas.List.{take-append-le}
use Rattle.viewer_session.specs.Session.{State, fault_in}
use Rattle.reflect_world.specs.World.{Held, WritesSome}
use Rattle.reflect_world.proofs.Places.{counted_same}
use Rattle.reflect_world.proofs.place.Place.write_piece.Goals as goal

pub returns-clause-ok : goal.returns-clause-ok
returns-clause-ok c =
    let n : ℕ = c.min-count.result in
    let before : State = c.self.inside.session in
    let new : Held = record { session = c.sent.new.self; looked = c.self.inside.looked; written = c.extend_from_slice.new.self.items; unread = c.self.inside.unread } in
    let piece = c.out-piece.result.now in
    let begins = c.out-piece.ensures.begins in
    let le : n ≤ length piece = omega (arith, c.min-count.ensures) in
    let first : take n piece ≡ take n before.unsent = sym (ap (take n) begins.1 ∙ take-append-le n piece begins.0 le) in
    let grown : c.extend_from_slice.new.self.items ≡ c.self.inside.written.items ++ take n piece = search rules in (
      subst (λ (old : Held). WritesSome old new n) c.self.view_is
          (record {
            others = ap (λ (t : List ℕ). record { session = c.sent.new.self; looked = c.self.inside.looked; written = t; unread = c.self.inside.unread }) (grown ∙ ap (λ (t : List ℕ). c.self.inside.written.items ++ t) first);
            within = omega (arith, le, ap length begins.1, length-append piece begins.0);
            left = ap (λ (t : State). t.unsent) c.sent.ensures.unsent;
            fault = ap fault_in c.sent.ensures.unsent;
            stands = c.sent.ensures.stands;
            counted = λ us. counted_same before c.sent.new.self us c.sent.ensures.same;
          }),
      omega (arith, c.min-count.ensures),
    )

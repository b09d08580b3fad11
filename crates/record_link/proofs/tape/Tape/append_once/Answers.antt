-- Whatever the file answers, it has a beginning of what was spelled for it.
use Rattle.std.proofs.Common.{◌≡◌, ◌≤◌, ◌+◌, ◌++◌, ℕ, List, false, arith, ◌∙◌, ap, take, drop, length, length-drop, length-take}
use Rattle.record_link.specs.Tapes.{Tape}
use Rattle.record_link.proofs.Taping.{takes_count, takes_and_fails}
use Rattle.record_link.proofs.tape.Tape.append_once.Goals as goal

pub invariant_of-self : goal.invariant_of-self
invariant_of-self g c =
    let room : List ℕ = c.self.inside.room.items in
    let bytes : c.split_at-2.result.1.now ≡ drop c.self.inside.start (take c.self.inside.end room) = cc in
    let fine : c.self.inside.is_broken ≡ false = ap (λ (t : Tape). t.is_broken) c.self.view_is ∙ c.requires in
    let len : length c.split_at-2.result.1.now ≡ length (drop c.self.inside.start (take c.self.inside.end room)) = ap length bytes in
    let all = c.in-Ok.ensures in
    let fits : c.self.inside.start + c.in-Ok.count ≤ c.self.inside.end = omega (arith, all.0, len, length-drop c.self.inside.start (take c.self.inside.end room), length-take c.self.inside.end room) in
    (fits, c.self.invariant.1, c.self.invariant.2, c.self.invariant.3, c.self.invariant.4, takes_count _ room _ _ _ c.self.inside.start c.self.inside.end c.in-Ok.count _ fine bytes all.1 c.self.invariant.5)

pub invariant_of-self-in-Err : goal.invariant_of-self-in-Err
invariant_of-self-in-Err g c =
    let room : List ℕ = c.self.inside.room.items in
    let unsent : List ℕ = drop c.self.inside.start (take c.self.inside.end room) in
    let bytes : c.split_at-2.result.1.now ≡ unsent = cc in
    let fine : c.self.inside.is_broken ≡ false = ap (λ (t : Tape). t.is_broken) c.self.view_is ∙ c.requires in
    let all = c.in-Err.ensures in
    (c.self.invariant.0, c.self.invariant.1, c.self.invariant.2, c.self.invariant.3, c.self.invariant.4, takes_and_fails _ unsent _ _ all.0 _ fine c.self.invariant.5 (all.2 ∙ ap (λ (xs : List ℕ). g.S.Storage.stored c.self.inside.storage ++ take all.0 xs) bytes))

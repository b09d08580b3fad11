use Rattle.std.proofs.Common.{◌≡◌, ℕ, suc, ◌-◌, ◌+◌, List, take, ap, ◌∙◌, sym, get_or, arith}
use Rattle.std.specs.Prelude.{replicate}
use Rattle.std.specs.Int.{bit_at}
use Rattle.std.specs.Int.Bits.{bit_or}
use Rattle.std.proofs.lemmas.List.{get_or-take}
use Rattle.std.proofs.lemmas.Nat.Bits.{bit_at_or, bit_at-pow_other, bit_at-suc}
use Rattle.hextile_codec.specs.Bits.{bit_of}
use Rattle.hextile_codec.proofs.MaskBits.{differ, begin_bits, no_more, splat_at}
use Rattle.hextile_codec.proofs.marking.mark_row.Goals as goal

pub returns-clause-begins : goal.returns-clause-begins
returns-clause-begins c x lt =
    let row : List ℕ = c.args.row.now in
    let here : get_or (take 16 row) x 0 ≡ get_or row x 0 = get_or-take 16 row x 0 lt in
    let o : bit_at c.differences-others.result x ≡ bit_of (differ (get_or row x 0) c.args.background) =
    c.differences-others.ensures.bits x lt ∙ (ap (λ v. bit_of (differ v (get_or (replicate 16 c.args.background) x 0))) here ∙ ap (λ v. bit_of (differ (get_or row x 0) v)) (splat_at c.args.background x lt)) in
    begin_bits c.differences-others.result c.differences-changes.result c.args.background (get_or row x 0) (get_or row (x - 1) 0) x o
    (λ some. c.differences-changes.ensures.bits x lt ∙ (ap (λ v. bit_of (differ v (get_or (take 16 row) x 0))) (c.turned.ensures.values x some lt ∙ get_or-take 16 row (x - 1) 0 (omega arith)) ∙ ap (λ v. bit_of (differ (get_or row (x - 1) 0) v)) here))

pub returns-clause-ends : goal.returns-clause-ends
returns-clause-ends c x lt =
    let row : List ℕ = c.args.row.now in
    let next : get_or (take 16 row) (x + 1) 0 ≡ get_or row (x + 1) 0 = get_or-take 16 row (x + 1) 0 lt in
    let back : x + 1 - 1 ≡ x = omega arith in
    let up : suc x ≡ x + 1 = omega arith in
    sym (bit_at-suc (bit_or c.differences-changes.result 65536) x)
    ∙ (ap (bit_at (bit_or c.differences-changes.result 65536)) up
    ∙ (bit_at_or c.differences-changes.result 65536 (x + 1)
    ∙ (no_more (bit_at c.differences-changes.result (x + 1)) (bit_at 65536 (x + 1)) (bit_at-pow_other 16 (x + 1) (λ e. absurd (omega (arith, e, lt))))
    ∙ (c.differences-changes.ensures.bits (x + 1) lt
    ∙ (ap (λ v. bit_of (differ v (get_or (take 16 row) (x + 1) 0))) (c.turned.ensures.values (x + 1) (omega arith) lt ∙ (get_or-take 16 row (x + 1 - 1) 0 (omega (arith, lt)) ∙ ap (λ k. get_or row k 0) back)) ∙ ap (λ v. bit_of (differ (get_or row x 0) v)) next)))))

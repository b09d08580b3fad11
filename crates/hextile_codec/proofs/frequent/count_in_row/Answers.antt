use Rattle.std.proofs.Common.{◌≡◌, ℕ, Bool, not, List, take, get_or, sym, ap, ◌∙◌, ◌+◌, ◌<◌, arith}
use Rattle.std.specs.Prelude.{◌==◌, count_ones, replicate}
use Rattle.std.specs.Int.{bit_at}
use Rattle.std.proofs.lemmas.List.{take_all}
use Rattle.joined_runs.specs.Joined.{count_of}
use Rattle.hextile_codec.specs.Bits.{bit_of}
use Rattle.hextile_codec.proofs.MaskBits.{splat_at}
use Rattle.hextile_codec.proofs.Tallies.{tally, tally_list, tally_ones}
use Rattle.hextile_codec.proofs.Shown.{tally_not}
use Rattle.hextile_codec.proofs.frequent.count_in_row.Goals as goal

pub returns-clause-count : goal.returns-clause-count
returns-clause-count c =
    let row : List ℕ = c.args.row.now in
    let v : ℕ = c.args.value in
    let whole : take 16 row ≡ row = take_all 16 row (omega (arith, c.requires)) in
    let p : ℕ → Bool = λ x. get_or row x 0 == v in
    let bits : (x : ℕ) → x < 16 → bit_at c.differences-others.result x ≡ bit_of (not (p (0 + x))) = λ x lt.
    let here : 0 + x ≡ x = omega arith in
    c.differences-others.ensures.bits x lt
    ∙ (ap (λ (r : List ℕ). bit_of (not (get_or r x 0 == get_or (replicate 16 v) x 0))) whole
    ∙ (ap (λ n. bit_of (not (get_or row x 0 == n))) (splat_at v x lt) ∙ ap (λ k. bit_of (not (p k))) (sym here))) in
    let ones : count_ones c.differences-others.result ≡ tally (λ x. not (p x)) 0 16 = tally_ones (λ x. not (p x)) 0 16 c.differences-others.result c.differences-others.ensures.few bits in
    let counted : count_of row v ≡ tally p 0 16 =
    tally_list (λ u. u == v) row (λ k. get_or row k 0) 0 (λ k lt. let same : 0 + k ≡ k = omega arith in ap (λ i. get_or row i 0) (sym same)) ∙ ap (tally p 0) c.requires in
    omega (arith, ones, counted, tally_not p 0 16, c.min.ensures)

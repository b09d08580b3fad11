use Rattle.std.proofs.Common.{◌≡◌, ℕ, Bool, not, List, take, get_or, sym, ap, ◌∙◌, ◌+◌, ◌<◌, arith}
use Rattle.std.specs.Prelude.{◌==◌, count_ones}
use Rattle.std.proofs.lemmas.List.{take_all}
use Rattle.std.specs.Int.{bit_at}
use Rattle.hextile_codec.specs.Bits.{bit_of}
use Rattle.hextile_codec.proofs.Tallies.{tally, tally_filter, tally_ones}
use Rattle.hextile_codec.proofs.Shown.{tally_not}
use Rattle.hextile_codec.proofs.crowded.count_same.Goals as goal

pub returns-clause-same : goal.returns-clause-same
returns-clause-same c =
    let row : List ℕ = c.args.row.now in
    let other : List ℕ = c.args.other.now in
    let whole : take 16 row ≡ row = take_all 16 row (omega (arith, c.requires.row)) in
    let all : take 16 other ≡ other = take_all 16 other (omega (arith, c.requires.other)) in
    let p : ℕ → Bool = λ x. get_or row x 0 == get_or other x 0 in
    let bits : (x : ℕ) → x < 16 → bit_at c.differences-apart.result x ≡ bit_of (not (p (0 + x))) = λ x lt.
    let here : 0 + x ≡ x = omega arith in
    c.differences-apart.ensures.bits x lt
    ∙ (ap (λ (r : List ℕ). bit_of (not (get_or r x 0 == get_or (take 16 other) x 0))) whole
    ∙ (ap (λ (r : List ℕ). bit_of (not (get_or row x 0 == get_or r x 0))) all ∙ ap (λ k. bit_of (not (p k))) (sym here))) in
    let counted : count_ones c.differences-apart.result ≡ tally (λ x. not (p x)) 0 16 = tally_ones (λ x. not (p x)) 0 16 c.differences-apart.result c.differences-apart.ensures.few bits in
    omega (arith, counted, tally_not p 0 16, tally_filter p 0 16, c.min.ensures)

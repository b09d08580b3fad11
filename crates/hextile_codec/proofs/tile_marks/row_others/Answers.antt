use Rattle.std.proofs.Common.{◌≡◌, ℕ, not, List, take, get_or, ap, ◌∙◌}
use Rattle.std.specs.Prelude.{replicate, ◌==◌}
use Rattle.std.proofs.lemmas.List.{get_or-take}
use Rattle.hextile_codec.specs.Bits.{bit_of}
use Rattle.hextile_codec.proofs.MaskBits.{splat_at}
use Rattle.hextile_codec.proofs.tile_marks.row_others.Goals as goal

pub returns-clause-bits : goal.returns-clause-bits
returns-clause-bits c x lt =
    let row : List ℕ = c.args.row.now in
    let here : get_or (take 16 row) x 0 ≡ get_or row x 0 = get_or-take 16 row x 0 lt in
    c.differences.ensures.bits x lt ∙ (ap (λ v. bit_of (not (v == get_or (replicate 16 c.args.value) x 0))) here ∙ ap (λ v. bit_of (not (get_or row x 0 == v))) (splat_at c.args.value x lt))

use Rattle.std.proofs.Common.{◌≡◌, ◌%◌, ◌^◌, length, sym, ap, ◌∙◌, w32, arith}
use Rattle.std.specs.Int.{bit_at}
use Rattle.std.proofs.lemmas.Simd.{tops_compared, mask_l-lt, mask_l-mod, length-zip2}
use lib.Lanes.{mask_l, zip2}
use Rattle.hextile_codec.proofs.MaskBits.{differ, zip_bit}
use Rattle.hextile_codec.proofs.marking.differences.Goals as goal

pub returns-clause-bits : goal.returns-clause-bits
returns-clause-bits c x lt =
    let a = c.args.row in
    let b = c.args.other in
    let size : length (zip2 differ a b) ≡ 16 = length-zip2 differ a b (c.requires.row ∙ sym c.requires.other) ∙ c.requires.row in
    ap (λ n. bit_at n x) (ap (λ ms. mask_l ms % 2 ^ 64) (tops_compared w32 differ a b) ∙ mask_l-mod (zip2 differ a b) 64 (omega (arith, size))) ∙ zip_bit a b x c.requires.row c.requires.other lt

pub returns-clause-few : goal.returns-clause-few
returns-clause-few c =
    let a = c.args.row in
    let b = c.args.other in
    let size : length (zip2 differ a b) ≡ 16 = length-zip2 differ a b (c.requires.row ∙ sym c.requires.other) ∙ c.requires.row in
    rw (ap (λ ms. mask_l ms % 2 ^ 64) (tops_compared w32 differ a b) ∙ mask_l-mod (zip2 differ a b) 64 (omega (arith, size))) (rw size at (mask_l-lt (zip2 differ a b)))

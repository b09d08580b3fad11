use Rattle.std.proofs.Common.{◌≡◌, ℕ, List, [], ◌∷◌, ◌++◌, ◌∙◌, length, ap, append_assoc}
use Rattle.std.specs.List.{flat_map}
use Rattle.zrle_codec.specs.Cpixel.{cpixel_bytes}
use Rattle.zrle_codec.specs.Tiles.{index_bits, packed_rows}
use Rattle.zrle_codec.proofs.packed.append_packed.Goals as goal

pub returns-clause-ok : goal.returns-clause-ok
returns-clause-ok c =
    let old : List ℕ = c.args.out.now.items in
    let n : ℕ = length c.args.palette.now in
    let colours : List ℕ = flat_map (cpixel_bytes c.args.pixels.now.format) c.args.palette.now in
    let rows : List ℕ = packed_rows (index_bits n) c.args.w c.args.h c.args.indices.now in
    let bits : packed_rows c.index_bits.result c.args.w c.args.h c.args.indices.now ≡ rows = ap (λ b. packed_rows b c.args.w c.args.h c.args.indices.now) c.index_bits.ensures.value in
    let behind : c.append_pixels.new.out.items ≡ old ++ n ∷ colours =
    c.in_ok-append_pixels.ensures.ok ∙ (ap (λ t. t ++ colours) c.in_ok-append_byte.ensures.ok ∙ append_assoc old (n ∷ []) colours) in
    c.in_ok-append_rows.ensures.ok ∙ (ap (λ t. t ++ packed_rows c.index_bits.result c.args.w c.args.h c.args.indices.now) behind ∙ (ap (λ t. (old ++ n ∷ colours) ++ t) bits ∙ append_assoc old (n ∷ colours) rows))

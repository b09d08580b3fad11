use Rattle.std.proofs.Common.{◌≡◌, ℕ, ◌+◌, List, [], ◌∷◌, ◌++◌, ◌∙◌, length, ap, subst, append_assoc}
use Rattle.std.specs.List.{flat_map}
use Rattle.zrle_codec.specs.Cpixel.{cpixel_bytes}
use Rattle.zrle_codec.specs.Tiles.{index_run_bytes}
use Rattle.zrle_codec.specs.Appends.{AppendsRuns}
use Rattle.zrle_codec.proofs.palette_runs.append_palette_runs.Goals as goal

pub returns-clause-ok : goal.returns-clause-ok
returns-clause-ok c =
    let old : List ℕ = c.args.out.now.items in
    let first : ℕ = length c.args.palette.now + 128 in
    let colours : List ℕ = flat_map (cpixel_bytes c.args.pixels.now.format) c.args.palette.now in
    let P : List ℕ → Type 0 = λ t. AppendsRuns index_run_bytes t c.append_index_runs.new.out.items c.args.indices.now in
    let behind : c.append_pixels.new.out.items ≡ old ++ first ∷ colours =
    c.in_ok-append_pixels.ensures.ok ∙ (ap (λ t. t ++ colours) c.in_ok-append_byte.ensures.ok ∙ append_assoc old (first ∷ []) colours) in
    subst P behind c.in_ok-append_index_runs.ensures.ok

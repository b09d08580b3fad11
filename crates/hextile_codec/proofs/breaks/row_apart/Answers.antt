use Rattle.std.proofs.Common.{◌≡◌, ℕ, ◌-◌, List, take, get_or, not, ap, ◌∙◌, arith}
use Rattle.std.specs.Prelude.{◌==◌}
use Rattle.std.proofs.lemmas.List.{get_or-take}
use Rattle.raster.specs.Screen.{Canvas, value_at, part_of}
use Rattle.hextile_codec.specs.Bits.{bit_of}
use Rattle.hextile_codec.proofs.breaks.row_apart.Goals as goal

pub returns-clause-bits : goal.returns-clause-bits
returns-clause-bits c x lt some =
    let canvas : Canvas = part_of c.args.tile.now (value_at c.args.w c.args.values.now) in
    let row : List ℕ = c.row_of.result.now in
    let above : List ℕ = c.row_of-2.result.now in
    let here : get_or (take 16 row) x 0 ≡ canvas x c.args.y = get_or-take 16 row x 0 lt ∙ c.row_of.ensures.values x (omega (arith, lt, c.requires.wide)) in
    let there : get_or (take 16 above) x 0 ≡ canvas x (c.args.y - 1) = get_or-take 16 above x 0 lt ∙ c.row_of-2.ensures.values x (omega (arith, lt, c.requires.wide)) in
    c.differences.ensures.bits x lt ∙ (ap (λ v. bit_of (not (v == get_or (take 16 above) x 0))) here ∙ ap (λ v. bit_of (not (canvas x c.args.y == v))) there)

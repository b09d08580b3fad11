use Rattle.std.proofs.Common.{◌≡◌, ◌+◌, ◌-◌, ◌*◌, ◌/◌, ℕ, refl, ap, ◌∙◌, arith}
use Rattle.raster.specs.Screen.{tiles_across}
use Rattle.raster.proofs.Tiles.{across_is}
use Rattle.painter.specs.WholeTiles.{HasWholeTiles}
use Rattle.painter.proofs.KeptTiles.{forms_of_area}
use Rattle.painter.proofs.area_forms.forms_in.Goals as goal

pub returns : goal.returns
returns c = λ colours are.
    let area = c.args.area.now in
    let first : ℕ = area.y / 16 * c.div_ceil-across.result + area.x / 16 in
    let n : ℕ = first + c.div_ceil.result - first in
    let whole : HasWholeTiles area c.args.width c.args.height = c.if-not-has_whole_tiles.ensures refl in
    let first_is : first ≡ area.y / 16 * tiles_across c.args.width + area.x / 16 = ap (λ a. area.y / 16 * a + area.x / 16) (c.div_ceil-across.ensures ∙ across_is c.args.width) in
    let across : c.div_ceil.result ≡ tiles_across area.w = c.div_ceil.ensures ∙ across_is area.w in
    let count : n ≡ tiles_across area.w = omega (arith, across) in
    forms_of_area c.args.width c.args.height area colours c.args.forms.now first n c.requires.within whole are first_is count

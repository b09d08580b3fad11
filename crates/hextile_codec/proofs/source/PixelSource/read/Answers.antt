use Rattle.std.proofs.Common.{◌≡◌, ℕ, ◌+◌, ◌*◌, true, List, length, map, sym, ap, ◌∙◌, cond, arith}
use Rattle.std.proofs.lemmas.List.{length-map}
use Rattle.pixel_format.specs.PixelFormat.{tint}
use Rattle.raster.specs.declared.rect.Rect.{Rect}
use Rattle.raster.specs.Screen.{Canvas, part_of, value_at, values_of}
use Rattle.raster.proofs.Places.{length_values, tinted_at}
use Rattle.raster.proofs.Values.{values_back}
use Rattle.hextile_codec.specs.declared.source.PixelSource.{PixelSource}
use Rattle.hextile_codec.specs.Sources.{place_in, shows}
use Rattle.hextile_codec.proofs.SourceTiles.{lies_in}
use Rattle.hextile_codec.proofs.source.PixelSource.read.Goals as goal

pub has_values_at-requires : goal.has_values_at-requires
has_values_at-requires c = rw c.place_of-place.ensures (lies_in c.args.self.now c.args.tile.now c.requires.stands c.requires.within)

pub returns : goal.returns
returns c =
    let format = c.args.format.now in
    let tile : Rect = c.args.tile.now in
    let source : PixelSource = c.args.self.now in
    let colours : Canvas = value_at source.width source.numbers.now in
    let place : Rect = place_in source tile in
    let tinted : List ℕ = map (tint format) (values_of tile.w tile.h (part_of place colours)) in
    let count : length tinted ≡ tile.w * tile.h = length-map (values_of tile.w tile.h (part_of place colours)) (tint format) ∙ length_values tile.w tile.h (part_of place colours) in
    let are : source.are_colours ≡ true = c.has_values_at.ensures.colours c.if-has_values_at.false in
    (rw c.place_of-place.ensures at c.tint_rows.ensures)
    ∙ sym (values_back tile.w tile.h (part_of tile (shows format source)) tinted c.requires.w_some count (λ x y lx ly.
    let left : source.area.x + (tile.x + x) ≡ source.area.x + tile.x + x = omega arith in
    let top : source.area.y + (tile.y + y) ≡ source.area.y + tile.y + y = omega arith in
    ap (λ b. cond b (tint format (colours (source.area.x + (tile.x + x)) (source.area.y + (tile.y + y)))) (colours (source.area.x + (tile.x + x)) (source.area.y + (tile.y + y)))) are
    ∙ (ap (λ u. tint format (colours u (source.area.y + (tile.y + y)))) left
    ∙ (ap (λ v. tint format (colours (source.area.x + tile.x + x) v)) top ∙ sym (tinted_at (tint format) tile.w tile.h (part_of place colours) x y lx ly)))))

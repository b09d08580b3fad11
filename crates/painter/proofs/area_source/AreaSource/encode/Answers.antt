use Rattle.std.proofs.Common.{◌≡◌, ℕ, ◌*◌, true, List, length, map, sym, subst, ◌∙◌}
use Rattle.std.proofs.lemmas.List.{length-map}
use Rattle.pixel_format.specs.PixelFormat.{PixelFormat, tint}
use Rattle.raster.specs.declared.encoding.Encoding.TheVariants.{Hextile}
use Rattle.raster.specs.declared.rect.Rect.{Rect}
use Rattle.raster.specs.Screen.{Canvas, part_of, value_at, values_of}
use Rattle.raster.proofs.Places.{length_values, tinted_at}
use Rattle.joined_runs.specs.Joined.{IsEncodedAs}
use Rattle.hextile_codec.specs.declared.source.PixelSource.{PixelSource}
use Rattle.hextile_codec.specs.Sources.{shows}
use Rattle.hextile_codec.proofs.Alike.{list_back}
use Rattle.painter.specs.Painter.{colours_in}
use Rattle.painter.proofs.area_source.AreaSource.encode.Goals as goal

pub returns : goal.returns
returns c =
    let format : PixelFormat = c.args.format.now in
    let own = c.args.self.now in
    let area : Rect = c.args.area.now in
    let colours : Canvas = value_at own.width own.colours.now in
    let source : PixelSource = record { numbers = own.colours; width = own.width; height = own.height; area = area; are_colours = true } in
    let pixels : List ℕ = map (tint format) (colours_in colours area) in
    let count : length pixels ≡ area.w * area.h = length-map (colours_in colours area) (tint format) ∙ length_values area.w area.h (part_of area colours) in
    let back : values_of area.w area.h (shows format source) ≡ pixels =
    list_back area.w area.h (shows format source) pixels count (λ x y lx ly. sym (tinted_at (tint format) area.w area.h (part_of area colours) x y lx ly)) in
    subst (λ values. IsEncodedAs c.args.runs Hextile format area.w area.h values c.encode_from.new.out c.encode_from.result) back c.encode_from.ensures

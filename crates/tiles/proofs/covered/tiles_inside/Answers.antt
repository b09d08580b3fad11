use Rattle.std.proofs.Common.{ap, arith, ◌∙◌}
use Rattle.raster.specs.declared.rect.Rect.{Rect}
use Rattle.raster.specs.declared.size.Size.{Size}
use Rattle.raster.specs.Screen.{common, lies_in, tile_rect, whole_screen}
use Rattle.tiles.proofs.Ranges.{inside_by_ranges, known_part_is}
use Rattle.tiles.proofs.covered.tiles_inside.Goals as goal

pub returns-clause-inside : goal.returns-clause-inside
returns-clause-inside c t lt =
    let known : Size = c.unwrap_or-known.result in
    inside_by_ranges c.args.width c.args.height known.width known.height c.args.area.now _ t (omega (arith, c.requires.size.wide.0)) lt c.range_inside-x.ensures.inside c.range_inside-y.ensures.inside
    ∙ ap (λ (r : Rect). lies_in (common (tile_rect c.args.width c.args.height t) r) c.args.area.now)
    (ap (λ (size : Size). whole_screen size.width size.height) c.unwrap_or-known.ensures ∙ known_part_is c.args.told)

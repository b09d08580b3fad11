use Rattle.std.proofs.Common.{◌≡◌, ◌<◌, ◌++◌, ◌∷◌, [], ℕ, List, Option, length, length-append, sym, ap, subst, arith}
use Rattle.raster.specs.declared.rect.Rect.{Rect}
use Rattle.raster.specs.Screen.{Canvas, tile_count, value_at}
use Rattle.raster.proofs.HextileSpelled.{IsTile, tile_lies}
use Rattle.hextile_codec.proofs.Tiles.{tile_inside}
use Rattle.hextile_codec.specs.declared.kept.TileForm.{TileForm}
use Rattle.hextile_codec.proofs.FormsOf.{IsFormOf, more_forms}
use Rattle.codec_tests.proofs.hextile_kept.forms_of.Goals as goal
use Rattle.codec_tests.proofs.hextile_kept.forms_of.Goals.{then-k-every-eq0, else-k-every-eq0}

pub form_of_tile-form-requires-clause-lies : goal.form_of_tile-form-requires-clause-lies
form_of_tile-form-requires-clause-lies c =
    let inside : c.loop-k.k < tile_count c.args.w c.args.h = rw c.tile_count-k-end.ensures.value at c.loop-k-test.true in
    let lies : IsTile c.args.w c.args.h c.tile_rect-tile.result = rw c.tile_rect-tile.ensures (tile_lies c.args.w c.args.h c.loop-k.k c.requires.wide.0 inside) in
    record {
      across = lies.across;
      down = tile_inside c.args.w c.args.h (length c.args.colours.now) c.tile_rect-tile.result lies c.requires.count;
      wide = omega (arith, c.requires.wide.1);
      high = omega (arith, lies.down, c.requires.high);
    }

pub loop-k-preserved : goal.loop-k-preserved
loop-k-preserved c =
    let canvas : Canvas = value_at c.args.w c.args.colours.now in
    let forms : List (Option TileForm) = c.loop-k.forms.items in
    let form : Option TileForm = c.if-k-every-eq0.push in
    let stands : IsFormOf c.args.w c.args.h canvas c.loop-k.k c.form_of_tile-form.result = rw c.tile_rect-tile.ensures at c.form_of_tile-form.ensures.stands in
    let here : IsFormOf c.args.w c.args.h canvas c.loop-k.k form = elim c.if-k-every-eq0.branch [ then-k-every-eq0 w ↦ rw w.push-is stands | else-k-every-eq0 w ↦ rw w.push-is tt ] in
    let pushed : c.push.new.self.items ≡ forms ++ form ∷ [] = c.in_ok-push.ensures.items in
    let last : IsFormOf c.args.w c.args.h canvas (length forms) form = subst (λ n. IsFormOf c.args.w c.args.h canvas n form) (sym c.loop-k.invariant.count) here in
    record {
      count = omega (arith, ap length pushed, length-append forms (form ∷ []), c.loop-k.invariant.count);
      are = rw pushed (more_forms c.args.w c.args.h canvas forms form c.loop-k.invariant.are last);
    }

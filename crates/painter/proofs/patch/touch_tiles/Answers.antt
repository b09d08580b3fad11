use Rattle.std.proofs.Common.{subst}
use Rattle.raster.specs.declared.rect.Rect.{Rect}
use Rattle.raster.specs.Screen.{meets, tile_rect}
use Rattle.tiles.specs.Grid.{IsTouched}
use Rattle.painter.proofs.TouchLaws.{touched_more}
use Rattle.painter.proofs.patch.touch_tiles.Goals as goal

pub loop-number-preserved : goal.loop-number-preserved
loop-number-preserved c =
    let i = c.loop-number.number-index in
    touched_more (tile_rect c.args.width c.args.height) c.args.grid.now c.loop-number.grid c.touch.new.self c.args.numbers.now 0 i c.args.n c.loop-number-test.true c.loop-number.invariant
    (subst (λ (r : Rect). IsTouched (λ t. meets r (tile_rect c.loop-number.grid.width c.loop-number.grid.height t)) c.args.n c.loop-number.grid c.touch.new.self) c.tile_rect.ensures c.touch.ensures)

use Rattle.std.proofs.Common.{take}
use Rattle.std.specs.List.{list_any}
use Rattle.raster.specs.Screen.{meets, tile_rect}
use Rattle.tiles.specs.Grid.{IsTouched}
use Rattle.painter.proofs.patch.touch_tiles.Given as goal

abbrev pub invariant-loop-number : goal.invariant-loop-number
invariant-loop-number l =
    IsTouched (λ t. list_any (λ k. meets (tile_rect l.width l.height k) (tile_rect l.fn.grid.width l.fn.grid.height t)) (take l.number-index l.numbers)) l.n l.fn.grid l.grid

use Rattle.std.proofs.Common.{◌≡◌}
use Rattle.std.specs.List.{flat_map}
use Rattle.raster.specs.Screen.{tile_rect}
use Rattle.painter.specs.Painter.{colours_in, touched_below, worked}
use Rattle.painter.proofs.painter.Painter.touched_tiles.Given as goal

abbrev pub invariant-loop-t : goal.invariant-loop-t
invariant-loop-t l =
    record {
      numbers : l.numbers.items ≡ touched_below l.self l.t;
      colours : l.colours.items ≡ flat_map (λ t. colours_in (worked l.self) (tile_rect l.self.width l.self.height t)) (touched_below l.self l.t);
    }

use Rattle.std.proofs.Common.{◌≡◌, ◌*◌, ◌≤◌, length}
use Rattle.std.specs.List.{sum_by}
use Rattle.painter.specs.Painter.{touched_below}
use Rattle.painter.specs.Patch.{tile_area}
use Rattle.painter.proofs.painter.Painter.touched_size.Given as goal

abbrev pub invariant-loop-t : goal.invariant-loop-t
invariant-loop-t l =
    record {
      count : l.count ≡ length (touched_below l.self l.t);
      area : l.positions ≡ sum_by (tile_area l.self.width l.self.height) (touched_below l.self l.t);
      few : l.count ≤ l.t;
      small : l.positions ≤ 256 * l.t;
    }

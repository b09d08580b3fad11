use Rattle.std.proofs.Common.{◌≡◌, ◌-◌, true, []}
use Rattle.raster.specs.Screen.{tile_count}
use Rattle.reflect_core.proofs.FillLaws.{IsFilled, at_tile}
use Rattle.reflect_core.proofs.cut.Cut.keep.Given as goal

abbrev pub invariant-loop-run : goal.invariant-loop-run
invariant-loop-run l =
    record {
      walk : l.walk ≡ at_tile l.have l.area l.walk.next;
      number : l.self.number ≡ l.board.number;
      host_size : l.self.host_size ≡ l.board.size;
      bells : l.self.bells ≡ l.board.bells;
      text : l.self.text ≡ l.board.text;
      passed : l.self.passed.copies ≡ [];
      filled : IsFilled l.board.grid l.board.colours l.have l.area l.walk.next l.self;
      shown : l.self.colours.is_shared ≡ true → l.self.colours.items ≡ l.board.colours;
    }

abbrev pub decreases-loop-run : goal.decreases-loop-run
decreases-loop-run l = tile_count l.walk.width l.walk.height - l.walk.next

use Rattle.std.proofs.Common.{◌≡◌, ℕ, ◌*◌, ◌<◌, ◌≤◌, length}
use Rattle.std.specs.Prelude.{nat_lt, not, ◌&&◌, if◌then◌else◌, slice_index}
use Rattle.raster.specs.Screen.{tile_count}
use Rattle.tiles.specs.Grid.{stamp_at}
use Rattle.tiles.proofs.grid.take_rows.Given as goal

abbrev pub invariant-loop-row : goal.invariant-loop-row
invariant-loop-row l =
    record {
      all : length l.stamps ≡ tile_count l.newer.width l.newer.height;
      done : (t : ℕ) → t < l.row * l.across → slice_index l.stamps t ≡ (if nat_lt l.number (stamp_at l.newer t) && not (nat_lt l.number (slice_index l.fn.stamps t)) then stamp_at l.newer t else slice_index l.fn.stamps t);
      left : (t : ℕ) → l.row * l.across ≤ t → slice_index l.stamps t ≡ slice_index l.fn.stamps t;
    }

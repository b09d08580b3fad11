use Rattle.std.proofs.Common.{◌+◌, ◌-◌, ◌<◌, ◌≤◌, length}
use Rattle.raster.proofs.RowScan.{IsFresh}
use Rattle.raster.specs.RowShown.{row_shows}
use Rattle.hextile_codec.proofs.RowRuns.{AreSoFar}
use Rattle.hextile_codec.proofs.runs.add_row.Given as goal

abbrev pub invariant-loop-x : goal.invariant-loop-x
invariant-loop-x l =
    record {
      inside : l.x ≤ length l.row;
      few : length l.runs.items ≤ length l.fn.runs.items + l.x;
      fresh : l.x < length l.row → IsFresh (row_shows l.row) l.y l.x;
      so_far : AreSoFar l.fn.runs.items l.runs.items l.row l.background l.y l.x;
    }

abbrev pub decreases-loop-x : goal.decreases-loop-x
decreases-loop-x l = length l.row - l.x

-- The runs that an iterator has yet to bring.
use Rattle.std.specs.Prelude.{List}
use Rattle.raster.specs.declared.rect.Rect.{Rect}
use Rattle.tiles.specs.Grid.{due_at}
use Rattle.tiles.specs.Walk.{runs_left}
use Rattle.tiles.specs.declared.due_runs.DueRuns.{DueRuns}

-- The runs of the tiles that the iterator hasn't reached yet (own).
abbrev pub to_come : DueRuns → List Rect
to_come runs = runs_left runs.walk (due_at runs.tiles.grid.now runs.tiles.have.now)

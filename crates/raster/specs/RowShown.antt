-- One row of values by itself.
use Rattle.std.specs.Prelude.{ℕ, List, slice_index}
use Rattle.raster.specs.Screen.{Canvas}

-- A row of values as a canvas whose rows are all the same.
abbrev pub row_shows : List ℕ → Canvas
row_shows row x y = slice_index row x

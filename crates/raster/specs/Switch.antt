-- What is shown between two hosts (own).
use Rattle.std.specs.Prelude.{ℕ, [], ◌∷◌}
use Rattle.raster.specs.declared.size.Size.{Size}
use Rattle.raster.specs.Update.{Update, Resized, of_paints}

-- The update by which the screen turns black, as it was at the opening, where one host ends and another begins. It has
-- one paint, which tells the size of the next host's screen.
abbrev pub switch_to : Size → Update
switch_to size = of_paints (Resized size ∷ [])

-- The same, where the next host's screen is w by h.
abbrev pub switch : ℕ → ℕ → Update
switch w h = switch_to (record { width = w; height = h })

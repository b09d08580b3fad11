-- Corners: positions at which a joined run begins, whatever the rows below show.
use Rattle.std.specs.Prelude.{ℕ, zero, suc, ◌+◌, ◌-◌, ◌==◌, Bool, ◌&&◌, not, if◌then◌else◌}
use Rattle.raster.specs.Screen.{Canvas}

-- The value at position x of row y differs from the background, from the value to the left, and from the value above.
abbrev pub is_corner : Canvas → ℕ → ℕ → ℕ → Bool
is_corner canvas background y x =
    not (x == 0) && ((not (canvas x y == background) && not (canvas (x - 1) y == canvas x y)) && not (canvas x (y - 1) == canvas x y))

-- How many of the first positions of a row are corners.
abbrev pub corners_before : Canvas → ℕ → ℕ → ℕ → ℕ
corners_before canvas background y zero = 0
corners_before canvas background y (suc x) = corners_before canvas background y x + (if is_corner canvas background y x then 1 else 0)

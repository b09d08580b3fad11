-- What a screen that was behind takes from a newer one.
use Rattle.std.specs.Prelude.{◌≡◌, ℕ, ◌<◌, Bool, true, if◌then◌else◌, List}
use Rattle.raster.specs.Screen.{holds, tile_count, tile_rect, value_at}

-- On a screen of w by h, each position of a tile that a test lets through has the newer colour, and each position of
-- another tile has the colour that it had.
abbrev pub TookTiles : ℕ → ℕ → (ℕ → Bool) → List ℕ → List ℕ → List ℕ → Type 0
TookTiles w h passes newer old new =
    (t x y : ℕ) → t < tile_count w h → holds (tile_rect w h t) x y ≡ true
    → value_at w new x y ≡ (if passes t then value_at w newer x y else value_at w old x y)

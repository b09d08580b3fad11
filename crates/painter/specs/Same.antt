-- Lists of updates that come to the same.
use Rattle.std.specs.Prelude.{◌≡◌, ℕ, ◌<◌, List, map, length, take}
use Rattle.raster.specs.Screen.{Canvas, LooksLike, tile_count, tile_rect}
use Rattle.raster.specs.Update.{Update, after_updates}
use Rattle.tiles.specs.Touched.{bell_or_text, touches}

-- On screens of w by h, with one list after a and the other after b: both lists are equally long; for each n, the first
-- n updates of both lists leave screens that look alike; and update by update, both touch the same tiles, and are the
-- same Bell or text (own).
pub record AreSameFrom (w h : ℕ) (a b : Canvas) (us vs : List Update) : Type 0 where
  pub count : length us ≡ length vs
  pub shows : (n : ℕ) → LooksLike w h (after_updates a (take n us)) (after_updates b (take n vs))
  pub touched : (t : ℕ) → t < tile_count w h → map (touches (tile_rect w h t)) us ≡ map (touches (tile_rect w h t)) vs
  pub kinds : map bell_or_text us ≡ map bell_or_text vs

-- The lists come to the same where the first begins on this screen, and the other on any that looks like it.
abbrev pub AreSameUpdates : ℕ → ℕ → Canvas → List Update → List Update → Type 0
AreSameUpdates w h start us vs = (before : Canvas) → LooksLike w h start before → AreSameFrom w h start before us vs

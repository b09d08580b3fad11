-- A raster whose colours were changed in place, as a slice. Each change of a `Raster` owes what it shows afterwards.
use Rattle.std.proofs.Common.{◌≡◌, ℕ, List, ◌++◌, length, take, refl, arith}
use Rattle.std.proofs.lemmas.List.{take_at}
use Rattle.raster.specs.Picture.{Picture, IsPicture, IsRedrawn}
use Rattle.raster.specs.Screen.{Canvas, LooksLike, value_at}

-- It shows what the slice shows.
pub redrawn : (old : Picture) (canvas : Canvas) (len : ℕ) (new rest : List ℕ) → length new ≡ len → LooksLike old.width old.height (value_at old.width new) canvas
    → IsRedrawn old canvas (record { width = old.width; height = old.height; colours = take len (new ++ rest) })
redrawn old canvas len new rest e shows = rw (take_at new rest len e) (record { width = refl; height = refl; shows = shows })

-- And is as large as before.
pub same_size : (old : Picture) (len : ℕ) (new rest : List ℕ) → length new ≡ len → length old.colours ≡ len → IsPicture old → IsPicture (record { width = old.width; height = old.height; colours = take len (new ++ rest) })
same_size old len new rest e same is = rw (take_at new rest len e) (record { count = omega (arith, e, same, is.count); small = is.small })

-- The marks of four rows, put together from those of each.
use Rattle.std.proofs.Common.{◌≡◌, ℕ, zero, suc, ◌||◌, not, List, get_or, refl, ◌+◌, ◌-◌, ◌<◌, arith}
use Rattle.std.specs.Prelude.{◌==◌}
use Rattle.raster.specs.Screen.{Canvas}
use Rattle.raster.specs.Encoding.{begins_run}
use Rattle.raster.specs.RowShown.{row_shows}
use Rattle.hextile_codec.specs.Places.{changes_at}

pub by_four : (P : ℕ → Type 0) → P 0 → P 1 → P 2 → P 3 → (r : ℕ) → r < 4 → P r
by_four P a b c d zero lt = a
by_four P a b c d (suc zero) lt = b
by_four P a b c d (suc (suc zero)) lt = c
by_four P a b c d (suc (suc (suc zero))) lt = d
by_four P a b c d (suc (suc (suc (suc r)))) lt = absurd (omega (arith, lt))

-- A row's values are those of a canvas.
abbrev pub Shows : List ℕ → Canvas → ℕ → Type 0
Shows row canvas y = (x : ℕ) → x < 16 → get_or row x 0 ≡ canvas x y

pub shown_begins : (row : List ℕ) (canvas : Canvas) (background y : ℕ) → Shows row canvas y → (x : ℕ) → x < 16 → begins_run (row_shows row) background 0 x ≡ begins_run canvas background y x
shown_begins row canvas background y f x lt =
    let a = f x lt in
    let b = f (x - 1) (omega (arith, lt)) in
    rw (a, b) refl

pub shown_ends : (row : List ℕ) (canvas : Canvas) (y : ℕ) → Shows row canvas y → (x : ℕ) → x + 1 < 16 → (get_or row x 0 == get_or row (x + 1) 0) ≡ (canvas x y == canvas (x + 1) y)
shown_ends row canvas y f x lt =
    let a = f x (omega (arith, lt)) in
    let b = f (x + 1) lt in
    rw (a, b) refl

pub shown_changes : (row : List ℕ) (canvas : Canvas) (y : ℕ) → Shows row canvas y → (x : ℕ) → x < 16 → ((x == 0) || not (get_or row (x - 1) 0 == get_or row x 0)) ≡ changes_at canvas y x
shown_changes row canvas y f x lt =
    let a = f x lt in
    let b = f (x - 1) (omega (arith, lt)) in
    rw (a, b) refl

-- Which tiles of a grid the rectangles of a patch touch. `Patch::touch` marks those and no others.
use Rattle.std.proofs.Common.{ℕ, ◌+◌, ◌<◌, Bool, List, length, take, get_or, sym, subst}
use Rattle.std.specs.Prelude.{◌||◌}
use Rattle.std.specs.List.{list_any}
use Rattle.std.proofs.lemmas.List.Folds.{list_any_more}
use Rattle.raster.specs.declared.rect.Rect.{Rect}
use Rattle.raster.specs.Screen.{meets, tile_rect}
use Rattle.tiles.proofs.GridLaws.{touched_as, touched_both}
use Rattle.tiles.specs.Grid.{IsTouched, Stamps}

-- The rectangle of one of these meets tile t of the screen of a grid.
abbrev pub met_by : {A : Type 0} → (A → Rect) → Stamps → List A → ℕ → Bool
met_by area grid xs t = list_any (λ x. meets (area x) (tile_rect grid.width grid.height t)) xs

-- One more of them.
pub touched_more : {A : Type 0} (area : A → Rect) (old mid new : Stamps) (xs : List A) (d : A) (i n : ℕ) → i < length xs → IsTouched (met_by area old (take i xs)) n old mid
    → IsTouched (λ t. meets (area (get_or xs i d)) (tile_rect mid.width mid.height t)) n mid new → IsTouched (met_by area old (take (i + 1) xs)) n old new
touched_more area old mid new xs d i n lt first second =
    touched_as (λ t. met_by area old (take i xs) t || next old t) (met_by area old (take (i + 1) xs)) n old new
    (λ t less. sym (list_any_more (λ x. meets (area x) (tile_rect old.width old.height t)) xs i d lt))
    (touched_both (met_by area old (take i xs)) (next old) n old mid new first there)
  where
    next : Stamps → ℕ → Bool
    next grid t = meets (area (get_or xs i d)) (tile_rect grid.width grid.height t)

    there : IsTouched (next old) n mid new
    there =
        subst (λ k. IsTouched (λ t. meets (area (get_or xs i d)) (tile_rect old.width k t)) n mid new) first.height
        (subst (λ k. IsTouched (λ t. meets (area (get_or xs i d)) (tile_rect k mid.height t)) n mid new) first.width second)

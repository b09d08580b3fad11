-- The forms of a board's tiles, which are kept while their colours stay.
use Rattle.std.specs.Prelude.{◌≡◌, ℕ, ◌<◌, Bool, false, ◌==◌, if◌then◌else◌, List, length, slice_index_or, Option, None, IfSome}
use Rattle.std.specs.List.{list_any}
use Rattle.raster.specs.Screen.{Canvas, meets, part_of, tile_count, tile_rect}
use Rattle.hextile_codec.specs.declared.kept.TileForm.{TileForm}
use Rattle.hextile_codec.specs.Kept.{FormStands}
use Rattle.copy_log.specs.declared.copy_rect.CopyRect.{CopyRect}

-- On a screen of width by height, each form that is kept of a tile other than these is that of the tile's colours.
abbrev pub AreFormsBut : List ℕ → ℕ → ℕ → Canvas → List (Option TileForm) → Type 0
AreFormsBut others width height colours forms =
    (t : ℕ) → t < length forms → t < tile_count width height → list_any (λ k. k == t) others ≡ false
    → IfSome (slice_index_or forms t None) (λ form. FormStands form (tile_rect width height t).w (tile_rect width height t).h (part_of (tile_rect width height t) colours))

-- The same of each tile that none of these copies meets, other than those of these numbers.
abbrev pub AreUncopiedForms : List CopyRect → List ℕ → ℕ → ℕ → Canvas → List (Option TileForm) → Type 0
AreUncopiedForms copies others width height colours forms =
    (t : ℕ) → t < length forms → t < tile_count width height → list_any (λ k. k == t) others ≡ false
    → list_any (λ c. meets c.area (tile_rect width height t)) copies ≡ false
    → IfSome (slice_index_or forms t None) (λ form. FormStands form (tile_rect width height t).w (tile_rect width height t).h (part_of (tile_rect width height t) colours))

-- Of the first count tiles, each that a test lets through has the newer form, and each other one has the form that it
-- had.
abbrev pub TookForms : ℕ → (ℕ → Bool) → List (Option TileForm) → List (Option TileForm) → List (Option TileForm) → Type 0
TookForms count passes newer old new =
    (t : ℕ) → t < length new → t < count → slice_index_or new t None ≡ (if passes t then slice_index_or newer t None else slice_index_or old t None)

-- How a patch's update begins, and which tiles its other paints touch. `Patch::note` notes that in a log.
use Rattle.std.proofs.Common.{◌≡◌, ℕ, zero, suc, arith, ◌<◌, false, List, [], ◌∷◌, inl, inr, drop, refl, ap, sym, ◌∙◌}
use Rattle.std.specs.Cmp.{unsigned_Decides}
use Rattle.std.specs.List.{list_any}
use Rattle.std.specs.Prelude.{◌==◌, ◌||◌}
use Rattle.std.proofs.lemmas.Bool.{cases_Bool}
use Rattle.copy_log.specs.Notes.{is_among, paints}
use Rattle.copy_log.specs.Passed.{BeginsWith, is_copy}
use Rattle.copy_log.specs.declared.copy_rect.CopyRect.{CopyRect}
use Rattle.raster.specs.declared.rect.Rect.{Rect}
use Rattle.raster.specs.Screen.{meets, tile_count, tile_rect}
use Rattle.raster.specs.Update.{paints_of}
use Rattle.raster.proofs.Places.{meets_at}
use Rattle.painter.specs.Copies.{leading_copies, other_paints}
use Rattle.painter.specs.Patch.{SizedUpdate, tile_area, tile_paints}
use Rattle.painter.proofs.FormLaws.{paints_are, tiles_apart}
use Rattle.painter.proofs.PaintingLaws.{tile_has}
use Rattle.painter.proofs.PatchLaws.{meets_tiles}

-- A screen that has a tile has some width.
some_wide : (w h t : ℕ) → t < tile_count w h → 0 < w
some_wide zero h t lt = absurd (omega (arith, lt))
some_wide (suc w) h t lt = omega arith

-- A tile meets itself, and no other tile.
tile_meets : (w h k t : ℕ) → 0 < w → t < tile_count w h → meets (tile_rect w h k) (tile_rect w h t) ≡ (k == t)
tile_meets w h k t lw lt = elim (cases_Bool (k == t)) [
  | inl same ↦
      let r : Rect = tile_rect w h t in
      ap (λ j. meets (tile_rect w h j) r) ((unsigned_Decides k t).0 same) ∙ (meets_at r r r.x r.y (tile_has w h t lw lt) (tile_has w h t lw lt) ∙ sym same)
  | inr other ↦ tiles_apart w h k t other ∙ sym other
]

tiles_met : (w h t : ℕ) (ts : List ℕ) → 0 < w → t < tile_count w h → list_any (λ k. meets (tile_rect w h k) (tile_rect w h t)) ts ≡ is_among ts t
tiles_met w h t [] lw lt = refl
tiles_met w h t (k ∷ ts) lw lt = (λ i. tile_meets w h k t lw lt i || tiles_met w h t ts lw lt i)

-- Tiles that are put are no copies.
none_copied : (w h : ℕ) (ts colours : List ℕ) → list_any is_copy (tile_paints w h ts colours) ≡ false
none_copied w h [] colours = refl
none_copied w h (t ∷ ts) colours = none_copied w h ts (drop (tile_area w h t) colours)

-- A patch begins with its copies, and its other paints touch its tiles.
pub patch_begins : (patch : SizedUpdate) (cs : List CopyRect) (ts tiles : List ℕ) → paints cs ≡ leading_copies (paints_of patch.update)
    → tile_paints patch.width patch.height ts tiles ≡ other_paints (paints_of patch.update) → BeginsWith patch.width patch.height (paints cs) (is_among ts) patch.update
patch_begins patch cs ts tiles copies are =
    record {
      others = tile_paints patch.width patch.height ts tiles;
      paints = sym (paints_are patch cs ts tiles copies are);
      no_copies = none_copied patch.width patch.height ts tiles;
      tiles = λ t lt. meets_tiles patch.width patch.height (tile_rect patch.width patch.height t) ts tiles ∙ tiles_met patch.width patch.height t ts (some_wide patch.width patch.height t lt) lt;
    }

-- What a tile or a rectangle is written as depends on nothing but what it shows inside its width and height.
use Rattle.std.proofs.Common.{◌≡◌, ℕ, zero, suc, ◌+◌, ◌*◌, ◌/◌, ◌%◌, ◌<◌, ◌≤◌, List, [], ◌∷◌, ◌++◌, length, map, refl, sym, ap, subst, ◌∙◌, cond, arith}
use Rattle.std.specs.Prelude.{nat_le}
use Rattle.std.specs.List.{range_with_len}
use Rattle.std.proofs.Math.Nat.{zero-mul}
use Rattle.pixel_format.specs.PixelFormat.{PixelFormat}
use Rattle.raster.specs.declared.rect.Rect.{Rect}
use Rattle.raster.specs.Screen.{Canvas, LooksLike, part_of, values_of, value_at, tile_count, tile_rect}
use Rattle.raster.specs.Encoding.{Carried, Subrect, drawn_bytes, drawn_leaves, nothing_carried, raw_bytes}
use Rattle.raster.proofs.Places.{length_values, values_at}
use Rattle.raster.proofs.Values.{values_back}
use Rattle.raster.proofs.HextileSpelled.{IsTile, tile_lies}
use Rattle.joined_runs.specs.declared.rect_form.RectForm.{RectForm}
use Rattle.joined_runs.specs.Joined.{background_of, subrects_of, tile_bytes_as, tiles_from_as, hextile_bytes_as}
use Rattle.joined_runs.proofs.Recoloured.{background_same, subrects_same, recoloured}
use Rattle.hextile_codec.specs.declared.tile_kind.TileKind.{TileKind}
use Rattle.hextile_codec.specs.declared.tile_kind.TileKind.TheVariants.{Raw, Plain, TwoColours, Coloured}
use Rattle.hextile_codec.specs.declared.tile_kind.TileChoice.{TileChoice}
use Rattle.hextile_codec.specs.declared.source.TileValues.{TileValues}
use Rattle.hextile_codec.specs.TileKinds.{IsChosen, IsWrittenAs}
use Rattle.hextile_codec.specs.Sources.{AreOfTile}

uncoloured : (ss : List Subrect) → map (recoloured (λ v. v)) ss ≡ ss
uncoloured [] = refl
uncoloured (s ∷ ss) = ap (λ t. s ∷ t) (uncoloured ss)

module _ (form : RectForm) (w h : ℕ) (a b : Canvas) (wide : 0 < w) (high : 0 < h) (looks : LooksLike w h a b) where
  pub background_alike : background_of form w h a ≡ background_of form w h b
  background_alike = background_same (λ v. v) w h b a (λ x y u v lx ly lu lv e. e) looks refl wide high form

  pub subrects_alike : subrects_of form w h a ≡ subrects_of form w h b
  subrects_alike = subrects_same (λ v. v) w h b a (λ x y u v lx ly lu lv e. e) looks refl wide high form ∙ uncoloured (subrects_of form w h b)

  pub values_alike : values_of w h a ≡ values_of w h b
  values_alike = values_back w h a (values_of w h b) wide (length_values w h b) (λ x y lx ly. looks x y lx ly ∙ sym (values_at w h b x y lx ly))

  module _ (format : PixelFormat) (before : Carried) where
    -- A tile's bytes, by its background, its subrectangles and its values.
    abbrev bytes_by : ℕ → List Subrect → List ℕ → List ℕ × Carried
    bytes_by background subrects values =
        cond (nat_le (length (1 ∷ raw_bytes format values)) (length (drawn_bytes format before background subrects))) (1 ∷ raw_bytes format values, nothing_carried) (drawn_bytes format before background subrects, drawn_leaves background subrects)

    pub bytes_alike : tile_bytes_as form format before w h a ≡ tile_bytes_as form format before w h b
    bytes_alike =
        ap (λ background. bytes_by background (subrects_of form w h a) (values_of w h a)) background_alike
        ∙ (ap (λ subrects. bytes_by (background_of form w h b) subrects (values_of w h a)) subrects_alike ∙ ap (λ values. bytes_by (background_of form w h b) (subrects_of form w h b) values) values_alike)

    written_alike : (found : List Subrect) (background : ℕ) (kind : TileKind) (bytes : List ℕ) → IsWrittenAs form format before w h b found background kind bytes → IsWrittenAs form format before w h a found background kind bytes
    written_alike found background Raw bytes s = rw values_alike s
    written_alike found background Plain bytes s = (s.0, s.1, s.2 ∙ sym subrects_alike)
    written_alike found background (TwoColours v) bytes s = (s.0, s.1, s.2 ∙ sym subrects_alike)
    written_alike found background Coloured bytes s = (s.0, s.1, s.2 ∙ sym subrects_alike)

    pub chosen_alike : (found : List Subrect) (choice : TileChoice) → IsChosen form format before w h b found choice → IsChosen form format before w h a found choice
    chosen_alike found choice is =
        record {
          len = is.len ∙ ap (λ (t : List ℕ × Carried). length t.0) (sym bytes_alike);
          leaves = is.leaves ∙ ap (λ (t : List ℕ × Carried). t.1) (sym bytes_alike);
          written = subst (λ bytes. IsWrittenAs form format before w h a found choice.background choice.kind bytes) (ap (λ (t : List ℕ × Carried). t.0) (sym bytes_alike)) (written_alike found choice.background choice.kind (tile_bytes_as form format before w h b).0 is.written);
        }

-- A tile's values as a list of their own show what the tile shows.
pub own_looks : (w h : ℕ) (canvas : Canvas) (values : List ℕ) → values ≡ values_of w h canvas → LooksLike w h canvas (part_of (record { x = 0; y = 0; w = w; h = h }) (value_at w values))
own_looks w h canvas values is x y lx ly =
    let left : 0 + x ≡ x = omega arith in
    let top : 0 + y ≡ y = omega arith in
    rw (left, top, is) (sym (values_at w h canvas x y lx ly))

-- So a tile is chosen by any values that show it.
pub of_tile : (form : RectForm) (format : PixelFormat) (before : Carried) (seen : TileValues) (w h : ℕ) (canvas : Canvas) → 0 < w → 0 < h → AreOfTile seen w h canvas → (found : List Subrect) (choice : TileChoice)
    → IsChosen form format before seen.tile.w seen.tile.h (part_of seen.tile (value_at seen.width seen.values.now)) found choice → IsChosen form format before w h canvas found choice
of_tile form format before seen w h canvas wide high of found choice is =
    chosen_alike form w h canvas (part_of seen.tile (value_at seen.width seen.values.now)) wide high of.looks format before found choice (rw (of.wide, of.high) at is)

-- ---- a rectangle's tiles

module _ (form : RectForm) (format : PixelFormat) (w h : ℕ) (a b : Canvas) (wide : 0 < w) (looks : LooksLike w h a b) where
  tile_looks : (tile : Rect) → IsTile w h tile → LooksLike tile.w tile.h (part_of tile a) (part_of tile b)
  tile_looks tile lies x y lx ly = looks (tile.x + x) (tile.y + y) (omega (arith, lies.across)) (omega (arith, lies.down))

  from_alike : (before : Carried) (k n : ℕ) → k + n ≤ tile_count w h → tiles_from_as form format w h a before k n ≡ tiles_from_as form format w h b before k n
  from_alike before k zero le = refl
  from_alike before k (suc n) le =
      let tile : Rect = tile_rect w h k in
      let lies : IsTile w h tile = tile_lies w h k wide (omega arith) in
      let first : tile_bytes_as form format before tile.w tile.h (part_of tile a) ≡ tile_bytes_as form format before tile.w tile.h (part_of tile b) =
      bytes_alike form tile.w tile.h (part_of tile a) (part_of tile b) lies.w_some lies.h_some (tile_looks tile lies) format before in
      ap (λ (t : List ℕ × Carried). t.0 ++ tiles_from_as form format w h a t.1 (k + 1) n) first
      ∙ ap (λ t. (tile_bytes_as form format before tile.w tile.h (part_of tile b)).0 ++ t) (from_alike (tile_bytes_as form format before tile.w tile.h (part_of tile b)).1 (k + 1) n (omega arith))

  pub all_alike : hextile_bytes_as form format w h a ≡ hextile_bytes_as form format w h b
  all_alike = from_alike nothing_carried 0 (tile_count w h) (omega arith)

-- The bytes of what a canvas shows are those of its values.
pub of_values : (form : RectForm) (format : PixelFormat) (w h : ℕ) (canvas : Canvas) → 0 < w → hextile_bytes_as form format w h canvas ≡ hextile_bytes_as form format w h (value_at w (values_of w h canvas))
of_values form format w h canvas wide = all_alike form format w h canvas (value_at w (values_of w h canvas)) wide (λ x y lx ly. sym (values_at w h canvas x y lx ly))

-- The values of a canvas that shows a list of them, also where there are none.
pub list_back : (w h : ℕ) (canvas : Canvas) (values : List ℕ) → length values ≡ w * h → LooksLike w h canvas (value_at w values) → values_of w h canvas ≡ values
list_back zero h canvas [] count looks = let none : 0 * h ≡ 0 = zero-mul h in ap (λ n. map (λ k. canvas (k % 0) (k / 0)) (range_with_len 0 n)) none
list_back zero h canvas (v ∷ vs) count looks = let none : 0 * h ≡ 0 = zero-mul h in absurd (omega (arith, none, count))
list_back (suc w) h canvas values count looks = values_back (suc w) h canvas values (omega arith) count looks

-- What has bytes is not without width.
pub some_wide : (w h bytes : ℕ) → (w * h * bytes ≡ 0 → ⊥) → 0 < w
some_wide zero h bytes some = absurd (some (ap (λ n. n * bytes) (zero-mul h) ∙ zero-mul bytes))
some_wide (suc w) h bytes some = omega arith

-- A rectangle's bytes, tile after tile. `put_tiles` writes them one by one.
use Rattle.std.proofs.Common.{◌≡◌, ℕ, suc, List, [], ◌++◌, ◌∷◌, length, take, refl, sym, ap, ◌∙◌, ◌+◌, ◌-◌, ◌*◌, ◌<◌, ◌≤◌, append_assoc, length-append, arith}
use Rattle.std.proofs.lemmas.List.{length-take, append-nil}
use Rattle.std.proofs.Math.Nat.{mul-le-mul, mul-le-mul_right}
use Rattle.pixel_format.specs.PixelFormat.{PixelFormat}
use Rattle.raster.specs.declared.rect.Rect.{Rect}
use Rattle.raster.specs.Screen.{Canvas, IsWithin, values_of, part_of, tile_count, tile_rect}
use Rattle.raster.specs.Encoding.{Subrect, Carried, raw_bytes, drawn_bytes}
use Rattle.joined_runs.specs.declared.rect_form.RectForm.{RectForm}
use Rattle.joined_runs.specs.Joined.{subrects_of, tile_bytes_as, tiles_from_as}
use Rattle.raster.proofs.HextileSpelled.{IsTile, tile_lies}
use Rattle.hextile_codec.specs.declared.tile_kind.TileKind.{TileKind}
use Rattle.hextile_codec.specs.declared.tile_kind.TileKind.TheVariants.{Raw, Plain, TwoColours, Coloured}
use Rattle.hextile_codec.specs.TileKinds.{kind_of, IsTileSize, IsWrittenAs}

-- Tile k of a rectangle, which is at most as high and wide as a tile, and lies in it.
pub record IsTileOf (w h k : ℕ) (tile : Rect) : Type 0 where
  pub inside : k < tile_count w h
  pub size : IsTileSize tile.w tile.h
  pub within : IsWithin tile w h

pub tile_of : (w h k count : ℕ) (tile : Rect) → 0 < w → count ≡ tile_count w h → k < count → tile ≡ tile_rect w h k → IsTileOf w h k tile
tile_of w h k count tile wide all lt is =
    let inside : k < tile_count w h = rw all at lt in
    let lies : IsTile w h tile = rw is (tile_lies w h k wide inside) in
    record {
      inside = inside;
      size = record { w_some = lies.w_some; w_most = lies.w_most; h_some = lies.h_some; h_most = lies.h_most };
      within = record { across = lies.across; down = lies.down };
    }

-- It has at most 256 pixels.
pub tile_area : (w h : ℕ) → IsTileSize w h → w * h ≤ 256
tile_area w h size = let area : w * h ≤ 16 * 16 = mul-le-mul size.w_most size.h_most in omega (arith, area)

-- A tile lies in the values of all.
pub tile_inside : (w h len : ℕ) (tile : Rect) → IsTile w h tile → len ≡ w * h → (tile.y + tile.h) * w ≤ len
tile_inside w h len tile lies e = let p : (tile.y + tile.h) * w ≤ h * w = mul-le-mul_right w lies.down in omega (arith, p)

module _ (form : RectForm) (format : PixelFormat) (w h : ℕ) (canvas : Canvas) where
  abbrev pub rest_from : Carried → ℕ → List ℕ
  rest_from before k = tiles_from_as form format w h canvas before k (tile_count w h - k)

  abbrev pub tile_written : Carried → Rect → List ℕ × Carried
  tile_written before tile = tile_bytes_as form format before tile.w tile.h (part_of tile canvas)

  pub rest_next : (before : Carried) (k : ℕ) (tile : Rect) → tile ≡ tile_rect w h k → k < tile_count w h → rest_from before k ≡ (tile_written before tile).0 ++ rest_from (tile_written before tile).1 (k + 1)
  rest_next before k tile is lt =
      let next : tile_count w h - k ≡ suc (tile_count w h - (k + 1)) = omega arith in
      ap (tiles_from_as form format w h canvas before k) next ∙ ap (λ (t : Rect). (tile_written before t).0 ++ rest_from (tile_written before t).1 (k + 1)) (sym is)

  -- What is left begins with the next tile.
  pub left_len : (before : Carried) (k : ℕ) (tile : Rect) (len : ℕ) → tile ≡ tile_rect w h k → k < tile_count w h → len ≡ length (tile_written before tile).0
      → length (rest_from before k) ≡ len + length (rest_from (tile_written before tile).1 (k + 1))
  left_len before k tile len is lt size =
      ap length (rest_next before k tile is lt)
      ∙ (length-append (tile_written before tile).0 (rest_from (tile_written before tile).1 (k + 1)) ∙ ap (λ n. n + length (rest_from (tile_written before tile).1 (k + 1))) (sym size))

  pub tile_is_put : (before after_it : Carried) (k : ℕ) (tile : Rect) (used stop : ℕ) (out new whole : List ℕ) → tile ≡ tile_rect w h k → k < tile_count w h → take stop new ≡ take used out ++ (tile_written before tile).0 → after_it ≡ (tile_written before tile).1
      → take used out ++ rest_from before k ≡ whole → take stop new ++ rest_from after_it (k + 1) ≡ whole
  tile_is_put before after_it k tile used stop out new whole is lt put leaves so =
      ap (λ t. t ++ rest_from after_it (k + 1)) put
      ∙ (append_assoc (take used out) (tile_written before tile).0 (rest_from after_it (k + 1))
      ∙ (ap (λ (b : Carried). take used out ++ ((tile_written before tile).0 ++ rest_from b (k + 1))) leaves ∙ (ap (λ t. take used out ++ t) (sym (rest_next before k tile is lt)) ∙ so)))

  pub too_long : (before : Carried) (k : ℕ) (tile : Rect) (used : ℕ) (out whole : List ℕ) → tile ≡ tile_rect w h k → k < tile_count w h → used ≤ length out → take used out ++ rest_from before k ≡ whole → used + length (tile_written before tile).0 ≤ length whole
  too_long before k tile used out whole is lt le so =
      let first : List ℕ = (tile_written before tile).0 in
      let others : List ℕ = rest_from (tile_written before tile).1 (k + 1) in
      omega (arith, ap length (sym so), length-append (take used out) (rest_from before k), length-take used out, ap length (rest_next before k tile is lt), length-append first others)

  pub none_left : (before : Carried) (k : ℕ) → tile_count w h ≤ k → rest_from before k ≡ []
  none_left before k le = let none : tile_count w h - k ≡ 0 = omega arith in ap (tiles_from_as form format w h canvas before k) none

  pub all_put : (before : Carried) (k used : ℕ) (out whole : List ℕ) → tile_count w h ≤ k → take used out ++ rest_from before k ≡ whole → take used out ≡ whole
  all_put before k used out whole le so =
      sym (append-nil (take used out)) ∙ (ap (λ t. take used out ++ t) (sym (none_left before k le)) ∙ so)

-- What a choice that isn't Raw says.
pub says_drawn : (form : RectForm) (format : PixelFormat) (before : Carried) (w h : ℕ) (canvas : Canvas) (found : List Subrect) (background : ℕ) (kind : TileKind) (bytes : List ℕ) → (kind ≡ Raw → ⊥) → IsWrittenAs form format before w h canvas found background kind bytes
    → (bytes ≡ drawn_bytes format before background found) × (kind ≡ kind_of found) × (found ≡ subrects_of form w h canvas)
says_drawn form format before w h canvas found background Raw bytes not_raw s = absurd (not_raw refl)
says_drawn form format before w h canvas found background Plain bytes not_raw s = s
says_drawn form format before w h canvas found background (TwoColours v) bytes not_raw s = s
says_drawn form format before w h canvas found background Coloured bytes not_raw s = s

pub says_raw : (form : RectForm) (format : PixelFormat) (before : Carried) (w h : ℕ) (canvas : Canvas) (found : List Subrect) (background : ℕ) (kind : TileKind) (bytes : List ℕ) → kind ≡ Raw → IsWrittenAs form format before w h canvas found background kind bytes
    → bytes ≡ 1 ∷ raw_bytes format (values_of w h canvas)
says_raw form format before w h canvas found background Raw bytes e s = s
says_raw form format before w h canvas found background Plain bytes e s = absurd cc
says_raw form format before w h canvas found background (TwoColours v) bytes e s = absurd cc
says_raw form format before w h canvas found background Coloured bytes e s = absurd cc

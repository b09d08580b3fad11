-- The tiles of a rectangle, one behind another, draw one thing alone: tile by tile, and then position by position,
-- since each position lies in one of the tiles.
use Rattle.std.proofs.Common.{◌≡◌, ℕ, ◌+◌, ◌-◌, ◌*◌, ◌/◌, ◌%◌, ◌<◌, ◌≤◌, inl, inr, List, ◌++◌, ◌∙◌, refl, sym, ap, subst, arith, append_assoc}
use Rattle.std.specs.Prelude.{min}
use Rattle.std.proofs.lemmas.Bool.{cases_lt}
use Rattle.std.proofs.lemmas.Nat.{mul-add-lt, div-mul-add, mod-mul-add}
use Rattle.raster.specs.declared.rect.Rect.{Rect}
use Rattle.raster.specs.Screen.{Canvas, LooksLike, part_of, value_at, values_of}
use Rattle.raster.proofs.Places.{values_at}
use Rattle.pixel_format.specs.PixelFormat.{PixelFormat}
use Rattle.zrle_codec.specs.Tiles.{SpellsTile}
use Rattle.zrle_codec.specs.Areas.{SpellsTiles, zrle_tiles_across, zrle_tile_count, zrle_tile_rect}
use Rattle.zrle_codec.specs.Areas.SpellsTiles.{none, tile}
use Rattle.zrle_codec.specs.OneThing.{RectanglesDrawOneThing}
use Rattle.zrle_codec.proofs.OneTile.{one_tile}

-- ---- the tiles

-- the pixel values of tile t
abbrev pub tile_values : ℕ → ℕ → Canvas → ℕ → List ℕ
tile_values w h canvas t =
    let r : Rect = zrle_tile_rect w h t in
    values_of r.w r.h (part_of r canvas)

pub record SameTiles (w h : ℕ) (canvas known : Canvas) (count : ℕ) (a b r q : List ℕ) : Type 0 where
  pub bytes : a ≡ b
  pub seen : (t : ℕ) → t < count → tile_values w h canvas t ≡ tile_values w h known t
  pub rest : r ≡ q

pub tiles_alike : {format : PixelFormat} {w h : ℕ} {canvas : Canvas} {count : ℕ} {a : List ℕ} → (known : Canvas) (many : ℕ) (b r q : List ℕ) → SpellsTiles format w h canvas count a → SpellsTiles format w h known many b
    → count ≡ many → a ++ r ≡ b ++ q → SameTiles w h canvas known count a b r q
tiles_alike known many b r q (none format w h canvas) (none format' w' h' known') as_many same = record { bytes = refl; seen = λ t lt. absurd (omega arith); rest = same }
tiles_alike known many b r q (none format w h canvas) (tile format' w' h' known' count bytes more before last) as_many same = absurd (omega (arith, as_many))
tiles_alike known many b r q (tile format w h canvas count bytes more before last) (none format' w' h' known') as_many same = absurd (omega (arith, as_many))
tiles_alike known many b r q (tile format w h canvas count bytes more before last) (tile format' w' h' known' count' bytes' more' before' last') as_many same =
    let here : count' ≡ count = omega (arith, as_many) in
    let others = tiles_alike known' count' bytes' (more ++ r) (more' ++ q) before before' (sym here) (sym (append_assoc bytes more r) ∙ (same ∙ append_assoc bytes' more' q)) in
    let S : ℕ → Type 0 = λ t.
    let s : Rect = zrle_tile_rect w h t in
    SpellsTile format s.w s.h (values_of s.w s.h (part_of s known')) more' in
    let this = one_tile format (zrle_tile_rect w h count).w (zrle_tile_rect w h count).h more more' r q
    (values_of (zrle_tile_rect w h count).w (zrle_tile_rect w h count).h (part_of (zrle_tile_rect w h count) canvas))
    (values_of (zrle_tile_rect w h count).w (zrle_tile_rect w h count).h (part_of (zrle_tile_rect w h count) known')) others.rest last (subst S here last') in
    record {
      bytes = ap (λ t. t ++ more) others.bytes ∙ ap (λ t. bytes' ++ t) this.0.beginning;
      seen = λ t lt. elim (cases_lt t count) as (λ _. tile_values w h canvas t ≡ tile_values w h known' t) [
        | inl earlier ↦ others.seen t earlier
        | inr late ↦
            let is : count ≡ t = omega arith in
            subst (λ n. tile_values w h canvas n ≡ tile_values w h known' n) is this.1
      ];
      rest = this.0.behind;
    }

-- ---- the positions

-- the tile of a position
abbrev tile_of : ℕ → ℕ → ℕ → ℕ
tile_of w x y = y / 64 * zrle_tiles_across w + x / 64

record IsPlace (r : Rect) (x y : ℕ) : Type 0 where
  left : r.x ≤ x
  right : x - r.x < r.w
  top : r.y ≤ y
  bottom : y - r.y < r.h

place_by : (w h a b x y : ℕ) → a ≡ x / 64 → b ≡ y / 64 → x < w → y < h → IsPlace (record { x = a * 64; y = b * 64; w = min 64 (w - a * 64); h = min 64 (h - b * 64) }) x y
place_by w h a b x y column row wide high = record { left = omega arith; right = omega arith; top = omega arith; bottom = omega arith }

place_of : (w h x y : ℕ) → x < w → y < h → IsPlace (zrle_tile_rect w h (tile_of w x y)) x y
place_of w h x y wide high =
    let across : x / 64 < zrle_tiles_across w = omega arith in
    place_by w h (tile_of w x y % zrle_tiles_across w) (tile_of w x y / zrle_tiles_across w) x y
    (mod-mul-add (y / 64) (zrle_tiles_across w) (x / 64) across) (div-mul-add (y / 64) (zrle_tiles_across w) (x / 64) across) wide high

-- the value at a position, as its tile has it
value_in_tile : (canvas : Canvas) (r : Rect) (x y : ℕ) → IsPlace r x y → value_at r.w (values_of r.w r.h (part_of r canvas)) (x - r.x) (y - r.y) ≡ canvas x y
value_in_tile canvas r x y place =
    let across : r.x + (x - r.x) ≡ x = omega (arith, place.left) in
    let down : r.y + (y - r.y) ≡ y = omega (arith, place.top) in
    values_at r.w r.h (part_of r canvas) (x - r.x) (y - r.y) place.right place.bottom
    ∙ (ap (λ n. canvas n (r.y + (y - r.y))) across ∙ ap (λ n. canvas x n) down)

pub one_canvas : (w h : ℕ) (canvas known : Canvas) → ((t : ℕ) → t < zrle_tile_count w h → tile_values w h canvas t ≡ tile_values w h known t)
    → LooksLike w h canvas known
one_canvas w h canvas known seen x y wide high =
    let t : ℕ = tile_of w x y in
    let r : Rect = zrle_tile_rect w h t in
    let there : t < zrle_tile_count w h = mul-add-lt (y / 64) (zrle_tiles_across w) (x / 64) (zrle_tiles_across h) (omega arith) (omega arith) in
    let place : IsPlace r x y = place_of w h x y wide high in
    sym (value_in_tile canvas r x y place)
    ∙ (ap (λ values. value_at r.w values (x - r.x) (y - r.y)) (seen t there) ∙ value_in_tile known r x y place)

pub one_rectangle : RectanglesDrawOneThing
one_rectangle format w h a b rest others canvas known same one two =
    let all = tiles_alike known (zrle_tile_count w h) b rest others one two refl same in
    (record { beginning = all.bytes; behind = all.rest }, one_canvas w h canvas known all.seen)

-- The tiles of an area: where they lie, what they show, and one more of them.
use Rattle.std.proofs.Common.{◌≡◌, ℕ, ◌+◌, ◌*◌, ◌/◌, ◌%◌, ◌<◌, ◌≤◌, List, [], ◌∷◌, ◌∙◌, length, map, refl, sym, ap, subst, arith, inl, inr, length-append}
use Rattle.std.specs.List.{range_with_len}
use Rattle.std.proofs.Math.Nat.{mul-le-mul_left, mul-le-mul_right, mul_comm, mod-lt, div-lt_iff_lt-mul}
use Rattle.std.proofs.lemmas.Bool.{cases_lt}
use Rattle.pixel_format.specs.PixelFormat.{PixelFormat, tint}
use Rattle.raster.specs.Screen.{Canvas, part_of, value_at, values_of}
use Rattle.raster.specs.declared.rect.Rect.{Rect}
use Rattle.zrle_codec.specs.Areas.{SpellsTiles, area_values, zrle_tiles_across, zrle_tile_count, zrle_tile_rect}
use Rattle.zrle_codec.specs.Areas.SpellsTiles.{tile}
use Rattle.zrle_codec.specs.Cpixel.{cpixel_len, received}
use Rattle.zrle_codec.specs.Tiles.{SpellsTile, AppendsTile}

map_all : (e g f h : ℕ → ℕ) → ((k : ℕ) → e (g (f k)) ≡ h k) → (xs : List ℕ) → map e (map g (map f xs)) ≡ map h xs
map_all e g f h same [] = refl
map_all e g f h same (x ∷ xs) = ap (λ y. y ∷ map e (map g (map f xs))) (same x) ∙ ap (λ t. h x ∷ t) (map_all e g f h same xs)

-- where a tile of an area lies on the screen
abbrev pub place_of : Rect → Rect → Rect
place_of area r = record { x = area.x + r.x; y = area.y + r.y; w = r.w; h = r.h }

-- its colours' pixel values, as they are received, are those of the area
pub tinted_is : (format : PixelFormat) (width : ℕ) (colours : List ℕ) (area r : Rect)
    → map (received format) (map (tint format) (values_of r.w r.h (part_of (place_of area r) (value_at width colours)))) ≡ values_of r.w r.h (part_of r (area_values format width colours area))
tinted_is format width colours area r =
    map_all (received format) (tint format) (λ k. value_at width colours (area.x + r.x + k % r.w) (area.y + r.y + k / r.w)) (λ k. received format (tint format (value_at width colours (area.x + (r.x + k % r.w)) (area.y + (r.y + k / r.w)))))
    (λ k.
    let x : area.x + r.x + k % r.w ≡ area.x + (r.x + k % r.w) = omega arith in
    let y : area.y + r.y + k / r.w ≡ area.y + (r.y + k / r.w) = omega arith in
    ap (λ n. received format (tint format (value_at width colours n (area.y + r.y + k / r.w)))) x ∙ ap (λ n. received format (tint format (value_at width colours (area.x + (r.x + k % r.w)) n))) y)
    (range_with_len 0 (r.w * r.h))

-- one more tile
pub tile_more : (format : PixelFormat) (w h width t : ℕ) (colours old new : List ℕ) (area r : Rect) → r ≡ zrle_tile_rect w h t
    → AppendsTile format r.w r.h (map (tint format) (values_of r.w r.h (part_of (place_of area r) (value_at width colours)))) old new
    → SpellsTiles format w h (area_values format width colours area) t old → SpellsTiles format w h (area_values format width colours area) (t + 1) new
tile_more format w h width t colours old new area r is appended before =
    let canvas : Canvas = area_values format width colours area in
    let S : Rect → Type 0 = λ s. SpellsTile format s.w s.h (values_of s.w s.h (part_of s canvas)) appended.bytes in
    let spelled : S r = subst (λ values. SpellsTile format r.w r.h values appended.bytes) (tinted_is format width colours area r) appended.spells in
    subst (λ bytes. SpellsTiles format w h canvas (t + 1) bytes) (sym appended.appended) (tile format w h canvas t old appended.bytes before (subst S is spelled))

-- how long tiles get
pub tile_few : (format : PixelFormat) (w h n : ℕ) (values old new : List ℕ) → cpixel_len format ≤ 4 → w ≤ 64 → h ≤ 64 → AppendsTile format w h values old new → length old ≤ n → length new ≤ 16385 + n
tile_few format w h n values old new four wide high appended few =
    let positions : w * h ≤ 4096 = omega (arith, mul-le-mul_left {m = h} {n = 64} w high, wide) in
    let most : cpixel_len format * (w * h) ≤ 16384 = omega (arith, mul-le-mul_right {m = cpixel_len format} {n = 4} (w * h) four, positions) in
    omega (arith, ap length appended.appended, length-append old appended.bytes, appended.few, most)

-- ---- where a tile lies

pub record LiesAt (w h t : ℕ) : Type 0 where
  pub column : t % zrle_tiles_across w * 64 < w
  pub row : t / zrle_tiles_across w * 64 < h

pub lies_at : (w h t : ℕ) → t < zrle_tile_count w h → LiesAt w h t
lies_at w h t lt =
    elim (cases_lt 0 (zrle_tiles_across w)) as (λ _. LiesAt w h t) [
      | inl some ↦
          let column : t % zrle_tiles_across w < zrle_tiles_across w = mod-lt t some in
          let swapped : zrle_tiles_across w * zrle_tiles_across h ≡ zrle_tiles_across h * zrle_tiles_across w = mul_comm (zrle_tiles_across w) (zrle_tiles_across h) in
          let row : t / zrle_tiles_across w < zrle_tiles_across h = (div-lt_iff_lt-mul some).1 (omega (arith, lt, swapped)) in
          record { column = omega (arith, column); row = omega (arith, row) }
      | inr none_wide ↦
          let zero_wide : zrle_tiles_across w ≡ 0 = omega arith in
          let nothing : zrle_tile_count w h ≡ 0 * zrle_tiles_across h = ap (λ a. a * zrle_tiles_across h) zero_wide in
          absurd (omega (arith, nothing, lt))
    ]

-- no more than 64 by 64 of them
pub few_tiles : (a b : ℕ) → a ≤ 64 → b ≤ 64 → a * b ≤ 4096
few_tiles a b across down = omega (arith, mul-le-mul_right {m = a} {n = 64} b across, down)

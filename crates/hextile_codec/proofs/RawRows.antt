-- A tile's pixels, row after row. `put_raw` writes a tile row by row, and owes its pixels as one list.
use Rattle.std.proofs.Common.{◌≡◌, ℕ, List, ◌++◌, ◌∷◌, length, take, drop, sym, ap, ◌∙◌, ◌+◌, ◌*◌, ◌<◌, ◌≤◌, append_assoc, arith}
use Rattle.std.proofs.Math.Seq.{take-add}
use Rattle.std.proofs.Math.Nat.{mul-le-mul_right}
use Rattle.std.proofs.lemmas.Grind.{same_number_lists, flat_map-append}
use Rattle.std.proofs.lemmas.List.{length-take, length-drop, get_or-take, get_or-drop, take_all}
use Rattle.pixel_format.specs.PixelFormat.{PixelFormat, pixel_bytes}
use Rattle.raster.specs.declared.rect.Rect.{Rect}
use Rattle.raster.specs.Screen.{Canvas, value_at, values_of, part_of}
use Rattle.raster.specs.Encoding.{raw_bytes}
use Rattle.raster.proofs.Places.{values_at, length_values}
use Rattle.raster.proofs.AreaRows.{tile_row, tile_row_len, tile_row_at}

-- The values of a tile.
abbrev pub tile_values : List ℕ → ℕ → Rect → List ℕ
tile_values values w tile = values_of tile.w tile.h (part_of tile (value_at w values))

-- One more row of them.
row_more : (values : List ℕ) (w : ℕ) (tile : Rect) (y : ℕ) → tile.x + tile.w ≤ w → (tile.y + tile.h) * w ≤ length values → y < tile.h
    → take ((y + 1) * tile.w) (tile_values values w tile) ≡ take (y * tile.w) (tile_values values w tile) ++ tile_row values w tile y
row_more values w tile y across down lt =
    let canvas : Canvas = part_of tile (value_at w values) in
    let n : ℕ = tile.w in
    let all : List ℕ = tile_values values w tile in
    let here : List ℕ = take n (drop (y * n) all) in
    let size : length all ≡ n * tile.h = length_values n tile.h canvas in
    let upto : (y + 1) * n ≤ tile.h * n = mul-le-mul_right n (omega arith) in
    let long : length here ≡ n = omega (arith, length-take n (drop (y * n) all), length-drop (y * n) all, size, upto) in
    let row_long : length (tile_row values w tile y) ≡ n = tile_row_len values w tile y across down lt in
    let same : here ≡ tile_row values w tile y =
    same_number_lists here (tile_row values w tile y) (long ∙ sym row_long)
    (λ k lk.
    let inside : k < n = omega (arith, long) in
    get_or-take n (drop (y * n) all) k 0 inside ∙ (get_or-drop (y * n) all k 0 ∙ (values_at n tile.h canvas k y inside lt ∙ sym (tile_row_at values w tile y k inside)))) in
    let next : (y + 1) * n ≡ y * n + n = omega arith in
    ap (λ m. take m all) next ∙ (take-add (y * n) n all ∙ ap (λ t. take (y * n) all ++ t) same)

pub row_is_put : (format : PixelFormat) (values : List ℕ) (w : ℕ) (tile : Rect) (y at stop : ℕ) (front out new : List ℕ) → tile.x + tile.w ≤ w → (tile.y + tile.h) * w ≤ length values → y < tile.h
    → take at out ≡ front ++ 1 ∷ raw_bytes format (take (y * tile.w) (tile_values values w tile)) → take stop new ≡ take at out ++ raw_bytes format (tile_row values w tile y)
    → take stop new ≡ front ++ 1 ∷ raw_bytes format (take ((y + 1) * tile.w) (tile_values values w tile))
row_is_put format values w tile y at stop front out new across down lt so put =
    let above : List ℕ = take (y * tile.w) (tile_values values w tile) in
    let row : List ℕ = tile_row values w tile y in
    put
    ∙ (ap (λ t. t ++ raw_bytes format row) so
    ∙ (append_assoc front (1 ∷ raw_bytes format above) (raw_bytes format row)
    ∙ ap (λ t. front ++ 1 ∷ t) (sym (flat_map-append (pixel_bytes format) above row) ∙ ap (raw_bytes format) (sym (row_more values w tile y across down lt)))))

pub all_rows : (values : List ℕ) (w : ℕ) (tile : Rect) (y : ℕ) → y ≡ tile.h → take (y * tile.w) (tile_values values w tile) ≡ tile_values values w tile
all_rows values w tile y e =
    let size : length (tile_values values w tile) ≡ tile.w * tile.h = length_values tile.w tile.h (part_of tile (value_at w values)) in
    let same : y * tile.w ≡ tile.h * tile.w = ap (λ n. n * tile.w) e in
    take_all (y * tile.w) (tile_values values w tile) (omega (arith, size, same))

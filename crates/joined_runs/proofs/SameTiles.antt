-- Tile by tile the form of the runs of rows is that of `raster`. `encode_as` writes it so.
use Rattle.std.proofs.Common.{◌≡◌, ℕ, zero, suc, List, ◌++◌, length, refl, ap, ◌+◌, ◌*◌, ◌/◌, ◌%◌, ◌<◌, ◌≤◌, arith}
use Rattle.std.proofs.Math.Nat.{mul-le-mul}
use Rattle.std.proofs.lemmas.List.FromFn.{length-map-range_with_len}
use Rattle.pixel_format.specs.PixelFormat.{PixelFormat}
use Rattle.raster.specs.Screen.{Canvas, part_of, tile_rect, values_of}
use Rattle.raster.specs.Encoding.{Carried, tile_bytes, tile_bytes_from}
use Rattle.raster.proofs.Values.{each_value}
use Rattle.joined_runs.specs.declared.rect_form.RectForm.{RectForm}
use Rattle.joined_runs.specs.declared.rect_form.RectForm.TheVariants.{OfRows, Joined}
use Rattle.joined_runs.specs.Joined.{background_of, subrects_of, joined_runs, tiles_from_as}
use Rattle.raster.proofs.TileSpelled.{few_runs}
use Rattle.joined_runs.proofs.MostFrequent.{most_holds}
use Rattle.joined_runs.proofs.Counts.{fewer_joined}

pub same_tiles : (format : PixelFormat) (w h : ℕ) (canvas : Canvas) (before : Carried) (k n : ℕ) → tiles_from_as OfRows format w h canvas before k n ≡ tile_bytes_from format w h canvas before k n
same_tiles format w h canvas before k zero = refl
same_tiles format w h canvas before k (suc n) =
    let here = tile_rect w h k in
    let first = tile_bytes format before here.w here.h (part_of here canvas) in
    ap (λ t. first.0 ++ t) (same_tiles format w h canvas first.1 (k + 1) n)

-- A tile's subrectangles are at most 255, so that their number is a byte.
pub few_subrects : (runs : RectForm) (canvas : Canvas) (w h : ℕ) → 0 < w → w ≤ 16 → 0 < h → h ≤ 16 → length (subrects_of runs w h canvas) ≤ 255
few_subrects OfRows canvas w h lw lw2 lh lh2 = few_runs canvas w h lw lw2 lh lh2
few_subrects Joined canvas w h lw lw2 lh lh2 =
    let values : List ℕ = values_of w h canvas in
    let some : 0 < length values = let area : 1 * 1 ≤ w * h = mul-le-mul {n₁ = 1} {m₁ = 1} {n₂ = w} {m₂ = h} lw lh in omega (arith, area, length-map-range_with_len (λ k. canvas (k % w) (k / w)) 0 (w * h)) in
    let area : h * w ≤ 16 * 16 = mul-le-mul {n₁ = h} {m₁ = w} {n₂ = 16} {m₂ = 16} lh2 lw2 in
    let fewer : Fewer (background_of Joined w h canvas) = most_holds Fewer values some (each_value w h canvas Fewer lw (λ x y lx ly. fewer_joined canvas (canvas x y) w h x y lx ly refl)) in
    omega (arith, area, fewer)
  where
    Fewer : ℕ → Type 0
    Fewer background = length (joined_runs canvas background w h) < h * w

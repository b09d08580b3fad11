-- A part of a row of a Raw tile is read and drawn. A piece may end in the middle of such a row.
use Rattle.std.proofs.Common.{◌≡◌, ℕ, ◌+◌, ◌-◌, ◌*◌, ◌/◌, ◌%◌, ◌<◌, ◌≤◌, Bool, true, false, cond, List, ◌++◌, length, length-append, sym, ◌∙◌, arith}
use Rattle.std.specs.Prelude.{◌==◌, min}
use Rattle.std.specs.Int.{w8, w16, w32, byte_len}
use Rattle.std.proofs.Math.Nat.{div-add-mod, div-lt_iff_lt-mul, le-div_iff_mul-le, mod-lt, mul-le-mul_right}
use Rattle.pixel_format.specs.PixelFormat.{PixelFormat, pixel_len}
use Rattle.raster.specs.declared.rect.Rect.{Rect}
use Rattle.raster.specs.Screen.{Canvas, LooksLike, lay, value_at, kept}
use Rattle.raster.specs.Encoding.{Carried}
use Rattle.hextile_codec.specs.declared.stage.Stage.TheVariants.{RawPixels}
use Rattle.hextile_codec.specs.Ahead.{Part, IsTile, IsDrawn, Led, pixels_in}
use Rattle.hextile_codec.proofs.PixelsIn.{pixels_go, pixels_count}
use Rattle.hextile_codec.proofs.TileDrawn.{row_grows}

some_bytes : (eight sixteen : Bool) → 0 < byte_len (cond eight w8 (cond sixteen w16 w32))
some_bytes true sixteen = omega arith
some_bytes false true = omega arith
some_bytes false false = omega arith

-- A pixel has bytes.
pub pixel_some : (format : PixelFormat) → 0 < pixel_len format
pixel_some format = some_bytes (format.bits_per_pixel == 8) (format.bits_per_pixel == 16)

-- Where the next pixel stands.
pub record IsNext (w h count : ℕ) : Type 0 where
  pub row : count / w < h
  pub column : count % w < w
  pub is : count / w * w + count % w ≡ count

pub next_is : (w h count : ℕ) → 0 < w → count < w * h → IsNext w h count
next_is w h count some lt =
    let turned : count < h * w = omega arith in
    record {
      row = (div-lt_iff_lt-mul some).1 turned;
      column = mod-lt count some;
      is = let e = div-add-mod count w in omega (arith, e);
    }

-- How many pixels of a row are read at once, where n bytes are there for each.
pub record IsPart (w count n len size : ℕ) : Type 0 where
  pub some : 0 < n
  pub least : n ≤ w - count % w
  pub upto : n * size ≤ len
  pub fills : size ≤ n * size

pub row_part : (w h count n len size : ℕ) {k : ℕ} → 0 < k → size ≡ k → 0 < w → count < w * h → size ≤ len → n ≡ min (w - count % w) (len / size) → IsPart w count n len size
row_part w h count n len size pixel is some lt le e =
    let size_some : 0 < size = omega (arith, pixel, is) in
    let one : 1 ≤ len / size = (le-div_iff_mul-le {k = size} {x = 1} {y = len} size_some).1 (omega (arith, le)) in
    let next = next_is w h count some lt in
    let least : n ≤ w - count % w = omega (arith, e) in
    let few : n ≤ len / size = omega (arith, e) in
    let more : 0 < n = omega (arith, e, one, next.column) in
    let fills : 1 * size ≤ n * size = mul-le-mul_right {m = 1} {n = n} size more in
    record { some = more; least = least; upto = (le-div_iff_mul-le {k = size} {x = n} {y = len} size_some).0 few; fills = omega (arith, fills) }

pub still_inside : (w h count n : ℕ) → 0 < w → count < w * h → n ≤ w - count % w → count + n ≤ w * h
still_inside w h count n some lt le =
    let i = next_is w h count some lt in
    let p : (count / w + 1) * w ≤ h * w = mul-le-mul_right {m = count / w + 1} {n = h} w (omega (arith, i.row)) in
    omega (arith, i.is, i.column, p)

pub row_leads : (keep : ℕ → ℕ) → (format : PixelFormat) (area : Rect) (carried : Carried) (w h count n : ℕ) (part : Part) (old new : Canvas) (bs : List ℕ) → IsTile area w h → count < area.w * area.h → n ≤ area.w - count % area.w → length bs ≡ n * pixel_len format
    → LooksLike w h new (lay (record { x = area.x + count % area.w; y = area.y + count / area.w; w = n; h = 1 }) (kept keep (value_at n (pixels_in format n bs))) old)
    → IsDrawn keep area (RawPixels count) old part
    → Led keep format area carried carried (RawPixels count) (RawPixels (count + n)) bs new part
row_leads keep format area carried w h count n part old new bs tile lt le size shows before =
    let row : ℕ = count / area.w in
    let column : ℕ = count % area.w in
    let i = next_is area.w area.h count tile.wide.0 lt in
    let more : List ℕ = pixels_in format n bs in
    let len : length more ≡ n = pixels_count format n bs in
    record {
      grown = record { pixels = part.pixels ++ more; drawing = part.drawing };
      goes = pixels_go format carried area.w area.h count n part bs (still_inside area.w area.h count n tile.wide.0 lt le) size;
      shows = (
        omega (arith, length-append part.pixels more, len, before.0),
        λ x y lx ly inside.
            row_grows keep area w h row column n part.pixels more old new tile (omega (arith, i.column, le)) i.row (before.0 ∙ sym i.is) len shows
            (λ u v lu lv k. before.1 u v lu lv (omega (arith, i.is, k))) x y lx ly (omega (arith, i.is, inside)),
      );
    }

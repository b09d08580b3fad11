-- What is written of joined runs is read back, in RRE and in Hextile. The law `form_is_read` is made of it.
use Rattle.std.proofs.Common.{◌≡◌, ℕ, subst, ◌^◌, ◌*◌, ◌/◌, ◌%◌, List, [], length, refl, ◌+◌, ◌<◌, ◌≤◌, arith}
use Rattle.std.specs.Prelude.{nat_le}
use Rattle.std.proofs.lemmas.Bool.{and_from, le-leb, cond_both}
use Rattle.std.proofs.lemmas.List.FromFn.{length-map-range_with_len}
use Rattle.std.proofs.Math.Nat.{mul-le-mul}
use Rattle.pixel_format.specs.PixelFormat.{PixelFormat, IsAccepted}
use Rattle.byte_reading.specs.Reading.{Spells}
use Rattle.byte_reading.proofs.ReadingLaws.{prefix_free}
use Rattle.raster.specs.declared.encoding.Encoding.{Encoding}
use Rattle.raster.specs.declared.encoding.Encoding.TheVariants.{Raw, Rre, Hextile}
use Rattle.raster.specs.Screen.{Canvas, values_of, value_at}
use Rattle.raster.specs.Encoding.{Carried, run_from, pixels, form}
use Rattle.raster.proofs.Spellings.{Each}
use Rattle.raster.proofs.Pixels.{ArePixels}
use Rattle.raster.proofs.Values.{value_holds, each_value}
use Rattle.raster.proofs.Runs.{run_within, run_some}
use Rattle.raster.proofs.RreSpelled.{CanBeSaid, drawing_is_read}
use Rattle.raster.proofs.TileSpelled.{Knows, IsSmall, TileRead, raw_or_drawn_is_read}
use Rattle.raster.proofs.HextileSpelled.{WritesTiles, tiled_is_read}
use Rattle.raster.proofs.Forms as forms
use Rattle.joined_runs.specs.declared.rect_form.RectForm.{RectForm}
use Rattle.joined_runs.specs.declared.rect_form.RectForm.TheVariants.{OfRows, Joined}
use Rattle.joined_runs.specs.Joined.{most_frequent, with_below, joined_runs, tile_bytes_as, tiles_from_as, hextile_bytes_as, form_of}
use Rattle.joined_runs.specs.Laws.{IsReadBack, FormDetermines}
use Rattle.joined_runs.proofs.MostFrequent.{most_holds}
use Rattle.joined_runs.proofs.JoinedDrawn.{each_joined, joined_drawn, joined_within}
use Rattle.joined_runs.proofs.Counts.{few_joined}

-- ---- RRE

joined_can : (format : PixelFormat) (canvas : Canvas) (background w h x y : ℕ) → w ≤ 4096 → h ≤ 4096 → x < w → y < h → canvas x y < 2 ^ format.bits_per_pixel → CanBeSaid format w h (with_below canvas w h (run_from canvas w y x))
joined_can format canvas background w h x y lw lh lx ly below =
    let across : x + (run_from canvas w y x).area.w ≤ w = run_within canvas w y x lx in
    let down : y + (with_below canvas w h (run_from canvas w y x)).area.h ≤ h = joined_within canvas background w h x y ly in
    record {
      value = below;
      x = omega arith;
      y = omega arith;
      w = omega (arith, across);
      h = omega (arith, down);
      inside = and_from _ _ (le-leb (x + (run_from canvas w y x).area.w) w across) (le-leb (y + (with_below canvas w h (run_from canvas w y x)).area.h) h down);
    }

rre_is_read : (format : PixelFormat) (w h : ℕ) (values : List ℕ) → IsAccepted format → ArePixels format values → 0 < w → w ≤ 4096 → 0 < h → h ≤ 4096 → length values ≡ w * h → Spells (pixels Rre format w h) (form_of Joined Rre format w h values) values
rre_is_read format w h values ok each lw lw2 lh lh2 e =
    let canvas : Canvas = value_at w values in
    let below : (x y : ℕ) → x < w → y < h → canvas x y < 2 ^ format.bits_per_pixel = λ x y lx ly. value_holds w h values (λ v. v < 2 ^ format.bits_per_pixel) x y e each lx ly in
    drawing_is_read format w h (canvas 0 0) (joined_runs canvas (canvas 0 0) w h) values ok (below 0 0 lw lh) lw lw2 lh2 e (few_joined canvas (canvas 0 0) w h)
    (each_joined canvas (canvas 0 0) w h (CanBeSaid format w h) (λ x y lx ly. joined_can format canvas (canvas 0 0) w h x y lw2 lh2 lx ly (below x y lx ly))) (joined_drawn canvas (canvas 0 0) w h)

-- ---- a tile of Hextile

joined_small : (format : PixelFormat) (canvas : Canvas) (background w h x y : ℕ) → w ≤ 16 → h ≤ 16 → x < w → y < h → canvas x y < 2 ^ format.bits_per_pixel → IsSmall format w h (with_below canvas w h (run_from canvas w y x))
joined_small format canvas background w h x y lw lh lx ly below =
    let across : x + (run_from canvas w y x).area.w ≤ w = run_within canvas w y x lx in
    let down : y + (with_below canvas w h (run_from canvas w y x)).area.h ≤ h = joined_within canvas background w h x y ly in
    record {
      value = below;
      x = omega arith;
      y = omega arith;
      w = (run_some canvas w y x lx, omega (arith, across));
      h = (omega arith, omega (arith, down));
      inside = and_from _ _ (le-leb (x + (run_from canvas w y x).area.w) w across) (le-leb (y + (with_below canvas w h (run_from canvas w y x)).area.h) h down);
    }

tile_is_read : (format : PixelFormat) (before carried : Carried) (w h : ℕ) (canvas : Canvas) → IsAccepted format → 0 < w → w ≤ 16 → 0 < h → h ≤ 16 → ((x y : ℕ) → x < w → y < h → canvas x y < 2 ^ format.bits_per_pixel) → Knows before carried
    → TileRead format carried w h canvas (tile_bytes_as Joined format before w h canvas)
tile_is_read format before carried w h canvas ok lw lw2 lh lh2 below knows =
    let values : List ℕ = values_of w h canvas in
    let some : 0 < length values = let area : 1 * 1 ≤ w * h = mul-le-mul {n₁ = 1} {m₁ = 1} {n₂ = w} {m₂ = h} lw lh in omega (arith, area, length-map-range_with_len (λ k. canvas (k % w) (k / w)) 0 (w * h)) in
    let background : ℕ = most_frequent values in
    let is : background < 2 ^ format.bits_per_pixel = most_holds (λ v. v < 2 ^ format.bits_per_pixel) values some (each_value w h canvas (λ v. v < 2 ^ format.bits_per_pixel) lw below) in
    let small : Each (IsSmall format w h) (joined_runs canvas background w h) = each_joined canvas background w h (IsSmall format w h) (λ x y lx ly. joined_small format canvas background w h x y lw2 lh2 lx ly (below x y lx ly)) in
    raw_or_drawn_is_read format before carried w h background (joined_runs canvas background w h) canvas ok lw below is knows small (joined_drawn canvas background w h)

hextile_is_read : (format : PixelFormat) (w h : ℕ) (values : List ℕ) → IsAccepted format → ArePixels format values → 0 < w → length values ≡ w * h → Spells (pixels Hextile format w h) (hextile_bytes_as Joined format w h (value_at w values)) values
hextile_is_read format w h values ok each lw e =
    let canvas : Canvas = value_at w values in
    let way : WritesTiles format w h canvas (tile_bytes_as Joined format) (tiles_from_as Joined format w h canvas) =
    record { none = λ before k. refl; next = λ before k n. refl; read = λ before carried across down part a b c d below knows. tile_is_read format before carried across down part ok a b c d below knows } in
    tiled_is_read format w h values (tile_bytes_as Joined format) (tiles_from_as Joined format w h canvas) way each lw e

-- ---- the laws

pub form_is_read : (runs : RectForm) (encoding : Encoding) → IsReadBack runs encoding
form_is_read OfRows encoding format w h values ok v = forms.form_is_read encoding format w h values ok v
form_is_read Joined Raw format w h values ok v = forms.form_is_read Raw format w h values ok v
form_is_read Joined Rre format w h values ok v = rre_is_read format w h values ok (forms.are_pixels format w h values v) v.wide.0 v.wide.1 v.high.0 v.high.1 v.count
form_is_read Joined Hextile format w h values ok v =
    let bytes : List ℕ = hextile_bytes_as Joined format w h (value_at w values) in
    let others : List ℕ = form Hextile format w h values in
    cond_both (nat_le (length bytes) (length others)) bytes others (λ field. Spells (pixels Hextile format w h) field values)
    (λ e. hextile_is_read format w h values ok (forms.are_pixels format w h values v) v.wide.0 v.count) (λ e. forms.form_is_read Hextile format w h values ok v)

pub form_determines : (runs : RectForm) → FormDetermines runs
form_determines runs encoding format w h values others ok v u e =
    (prefix_free (pixels encoding format w h) (form_of runs encoding format w h others) (form_of runs encoding format w h others) [] [] values others
    (subst (λ field. Spells (pixels encoding format w h) field values) e (form_is_read runs encoding format w h values ok v)) (form_is_read runs encoding format w h others ok u) refl).1

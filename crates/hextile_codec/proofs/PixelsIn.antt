-- Pixel values in bytes, one after another. Pixels of a Raw tile come and are written so.
use Rattle.std.proofs.Common.{◌≡◌, ℕ, zero, suc, ◌+◌, ◌-◌, ◌*◌, ◌<◌, ◌≤◌, List, [], ◌∷◌, ◌++◌, length, take, drop, refl, sym, ap, ◌∙◌, append_assoc, arith}
use Rattle.std.specs.Prelude.{slice_set, map}
use Rattle.std.specs.Int.{w32, from_le_bytes}
use Rattle.std.specs.Simd.{first_chunks}
use Rattle.std.proofs.lemmas.List.{append-nil, take_all, take_more_set, length-take, length-drop, length-set}
use Rattle.pixel_format.specs.PixelFormat.{PixelFormat, pixel_len, pixel_of}
use Rattle.byte_reading.specs.Reading.{Reading, Done, ◌>>=◌, times}
use Rattle.raster.specs.Encoding.{Carried, Tile, Pixels, pixel}
use Rattle.raster.proofs.FixedLength.{pixel_says}
use Rattle.hextile_codec.specs.declared.stage.Stage.TheVariants.{RawPixels}
use Rattle.raster.specs.Reader.{Goes}
use Rattle.hextile_codec.specs.Ahead.{Part, tile_rest, pixels_in}
use Rattle.hextile_codec.proofs.Goes.{goes_none, goes_split, goes_times}

pixels_cons : (format : PixelFormat) (n : ℕ) (bs : List ℕ) → 0 < n → pixels_in format n bs ≡ pixel_of format (take (pixel_len format) bs) ∷ pixels_in format (n - 1) (drop (pixel_len format) bs)
pixels_cons format zero bs lt = absurd (omega arith)
pixels_cons format (suc n) bs lt = let e : suc n - 1 ≡ n = omega arith in rw e refl

pub pixels_count : (format : PixelFormat) (n : ℕ) (bs : List ℕ) → length (pixels_in format n bs) ≡ n
pixels_count format zero bs = refl
pixels_count format (suc n) bs = ap suc (pixels_count format n (drop (pixel_len format) bs))

-- One more value is stored.
pub row_more : (format : PixelFormat) (values rest all : List ℕ) (i v : ℕ) → i < length values → v ≡ pixel_of format (take (pixel_len format) rest)
    → take i values ++ pixels_in format (length values - i) rest ≡ all
    → take (i + 1) (slice_set values i v) ++ pixels_in format (length (slice_set values i v) - (i + 1)) (drop (pixel_len format) rest) ≡ all
row_more format values rest all i v lt e sofar =
    let tail : List ℕ = pixels_in format (length values - i - 1) (drop (pixel_len format) rest) in
    let behind : length (slice_set values i v) - (i + 1) ≡ length values - i - 1 = omega (arith, length-set values i v) in
    ap (λ t. t ++ pixels_in format (length (slice_set values i v) - (i + 1)) (drop (pixel_len format) rest)) (take_more_set values i v lt)
    ∙ (ap (λ n. (take i values ++ v ∷ []) ++ pixels_in format n (drop (pixel_len format) rest)) behind
    ∙ (append_assoc (take i values) (v ∷ []) tail
    ∙ (ap (λ u. take i values ++ u ∷ tail) e ∙ (ap (λ t. take i values ++ t) (sym (pixels_cons format (length values - i) rest (omega arith))) ∙ sofar))))

-- All are stored.
pub row_done : (format : PixelFormat) (values rest all : List ℕ) (i : ℕ) → length values ≤ i → take i values ++ pixels_in format (length values - i) rest ≡ all → values ≡ all
row_done format values rest all i le sofar =
    let none : length values - i ≡ 0 = omega arith in
    sym (ap (λ t. t ++ pixels_in format (length values - i) rest) (take_all i values le) ∙ (ap (λ n. values ++ pixels_in format n rest) none ∙ append-nil values)) ∙ sofar

-- ---- how a Raw tile is read on

abbrev raw_left : PixelFormat → Carried → ℕ → List ℕ → Reading (Tile × Carried)
raw_left format carried count before = times count (pixel format) >>= λ more. Done (Pixels (before ++ more), carried)

one_goes : (format : PixelFormat) (carried : Carried) (count : ℕ) (before bs : List ℕ) → length bs ≡ pixel_len format → Goes (raw_left format carried (suc count) before) bs (raw_left format carried count (before ++ pixel_of format bs ∷ []))
one_goes format carried count before bs e = goes_times (pixel format) (λ vs. Done (Pixels vs, carried)) count before bs (pixel_of format bs) (pixel_says format bs e)

more_goes : (format : PixelFormat) (carried : Carried) (n left : ℕ) (before bs : List ℕ) → length bs ≡ n * pixel_len format → Goes (raw_left format carried (n + left) before) bs (raw_left format carried left (before ++ pixels_in format n bs))
more_goes format carried zero left before [] e =
    let a : 0 + left ≡ left = omega arith in
    let b : before ++ [] ≡ before = append-nil before in
    rw (a, b) (goes_none (raw_left format carried left before))
more_goes format carried zero left before (b ∷ bs) e = absurd (omega (arith, e))
more_goes format carried (suc n) left before bs e =
    let p : ℕ = pixel_len format in
    let sizes : suc n * p ≡ n * p + p = omega arith in
    let v : ℕ = pixel_of format (take p bs) in
    let count : suc n + left ≡ suc (n + left) = omega arith in
    let joined : (before ++ v ∷ []) ++ pixels_in format n (drop p bs) ≡ before ++ pixels_in format (suc n) bs = append_assoc before (v ∷ []) (pixels_in format n (drop p bs)) in
    rw count
    (goes_split (raw_left format carried (suc (n + left)) before) (raw_left format carried (n + left) (before ++ v ∷ [])) (raw_left format carried left (before ++ pixels_in format (suc n) bs)) p bs
    (one_goes format carried (n + left) before (take p bs) (omega (arith, length-take p bs, e, sizes)))
    (rw joined at (more_goes format carried n left (before ++ v ∷ []) (drop p bs) (omega (arith, length-drop p bs, e, sizes)))))

-- This many pixels after those that have come.
pub pixels_go : (format : PixelFormat) (carried : Carried) (w h come n : ℕ) (part : Part) (bs : List ℕ) → come + n ≤ w * h → length bs ≡ n * pixel_len format
    → Goes (tile_rest format w h carried (RawPixels come) part) bs (tile_rest format w h carried (RawPixels (come + n)) (record { pixels = part.pixels ++ pixels_in format n bs; drawing = part.drawing }))
pixels_go format carried w h come n part bs le e =
    let left : w * h - come ≡ n + (w * h - (come + n)) = omega arith in
    rw left (more_goes format carried n (w * h - (come + n)) part.pixels bs e)

-- Where a pixel value is spelled in four bytes, the least significant first, its bytes are taken four by four.
pub words_are : (format : PixelFormat) → pixel_len format ≡ 4 → ((bytes : List ℕ) → pixel_of format bytes ≡ from_le_bytes w32 bytes) → (n : ℕ) (bs : List ℕ) → map (from_le_bytes w32) (first_chunks 4 n bs) ≡ pixels_in format n bs
words_are format len value zero bs = refl
words_are format len value (suc n) bs =
    ap (λ vs. from_le_bytes w32 (take 4 bs) ∷ vs) (words_are format len value n (drop 4 bs))
    ∙ (ap (λ v. v ∷ pixels_in format n (drop 4 bs)) (sym (value (take 4 bs))) ∙ ap (λ k. pixel_of format (take k bs) ∷ pixels_in format n (drop k bs)) (sym len))

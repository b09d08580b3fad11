-- How many bytes CPIXELs have.
use Rattle.std.proofs.Common.{◌≡◌, ℕ, ◌+◌, ◌*◌, ◌≤◌, Bool, true, false, cond, List, [], ◌∷◌, ◌++◌, ◌∙◌, length, take, drop, refl, ap, arith, length-append, length-drop, lit≤}
use Rattle.std.specs.Prelude.{◌==◌}
use Rattle.std.specs.Int.{w8, w16, w32, byte_len}
use Rattle.std.specs.List.{flat_map}
use Rattle.std.proofs.lemmas.List.{length-take-le, take-append-le, drop-append-le}
use Rattle.pixel_format.specs.PixelFormat.{PixelFormat, pixel_bytes, pixel_len}
use Rattle.pixel_format.proofs.Pixels.{pixel_size}
use Rattle.zrle_codec.specs.Cpixel.{leaves_last, leaves_first, cpixel_bytes, cpixel_from, cpixel_len}

pub cpixel_size : (format : PixelFormat) (v : ℕ) → cpixel_from format + cpixel_len format ≤ pixel_len format → length (cpixel_bytes format v) ≡ cpixel_len format
unfolding cpixel_bytes
cpixel_size format v inside =
    length-take-le (cpixel_len format) (drop (cpixel_from format) (pixel_bytes format v)) (omega (arith, length-drop (cpixel_from format) (pixel_bytes format v), pixel_size format v))

pub cpixels_size : (format : PixelFormat) (values : List ℕ) → cpixel_from format + cpixel_len format ≤ pixel_len format → length (flat_map (cpixel_bytes format) values) ≡ cpixel_len format * length values
cpixels_size format [] inside = omega arith
cpixels_size format (v ∷ vs) inside =
    length-append (cpixel_bytes format v) (flat_map (cpixel_bytes format) vs)
    ∙ (ap (λ n. n + length (flat_map (cpixel_bytes format) vs)) (cpixel_size format v inside)
    ∙ (ap (λ n. cpixel_len format + n) (cpixels_size format vs inside) ∙ omega arith))

few_by : (eight sixteen : Bool) → byte_len (cond eight w8 (cond sixteen w16 w32)) ≤ 4
few_by true sixteen = lit≤ tt
few_by false true = lit≤ tt
few_by false false = lit≤ tt

-- a pixel has at most four bytes
pub pixel_few : (format : PixelFormat) → pixel_len format ≤ 4
pixel_few format = few_by (format.bits_per_pixel == 8) (format.bits_per_pixel == 16)

-- the CPIXEL, where the pixel stands in front of other bytes
pub cpixel_taken : (format : PixelFormat) (v : ℕ) (rest : List ℕ) → cpixel_from format + cpixel_len format ≤ pixel_len format
    → take (cpixel_len format) (drop (cpixel_from format) (pixel_bytes format v ++ rest)) ≡ cpixel_bytes format v
unfolding cpixel_bytes
cpixel_taken format v rest inside =
    let p : List ℕ = pixel_bytes format v in
    let size : length p ≡ pixel_len format = pixel_size format v in
    ap (λ t. take (cpixel_len format) t) (drop-append-le (cpixel_from format) p rest (omega (arith, size)))
    ∙ take-append-le (cpixel_len format) (drop (cpixel_from format) p) rest (omega (arith, size, length-drop (cpixel_from format) p))

pub cpixel_of_bytes : (format : PixelFormat) (v from len k : ℕ) (bytes rest : List ℕ) → from ≡ cpixel_from format → len ≡ cpixel_len format → from + len ≤ pixel_len format → k ≡ len
    → bytes ≡ pixel_bytes format v ++ rest → take k (drop from bytes) ≡ cpixel_bytes format v
cpixel_of_bytes format v from len k bytes rest begins has inside same is =
    let b : List ℕ = pixel_bytes format v ++ rest in
    ap (λ t. take k (drop from t)) is
    ∙ (ap (λ n. take n (drop from b)) (same ∙ has)
    ∙ (ap (λ n. take (cpixel_len format) (drop n b)) begins ∙ cpixel_taken format v rest (omega (arith, begins, has, inside))))

pub from_last : (format : PixelFormat) → leaves_last format ≡ true → 0 ≡ cpixel_from format
unfolding cpixel_from leaves_first
from_last format e = rw e refl

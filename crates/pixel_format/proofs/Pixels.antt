-- A pixel value and its bytes: what they are in each size and order, and that the value is read back. Rows of
-- pixels rest on it, and what is read of them.
use Rattle.std.proofs.Common.{◌≡◌, ℕ, ◌^◌, ◌*◌, ◌%◌, ◌/◌, Bool, true, false, cond, ◌||◌, List, [], ◌∷◌, length, refl, ◌<◌, arith}
use Rattle.std.specs.Prelude.{◌==◌}
use Rattle.std.specs.Int.{Width, w8, w16, w32, byte_len, to_be_bytes, to_le_bytes, from_be_bytes, from_le_bytes}
use Rattle.std.proofs.lemmas.Nat.{from_be_bytes-to_be_bytes_2, from_be_bytes-to_be_bytes_4, from_le_bytes-to_le_bytes_2, from_le_bytes-to_le_bytes_4}
use Rattle.std.specs.List.{flat_map}
use Rattle.std.proofs.lemmas.Bool.{and_parts, ne_eqb}
use Rattle.std.proofs.lemmas.Bool.Decides.{eqb_tells}
use Rattle.pixel_format.specs.PixelFormat.{PixelFormat, pixel_width, pixel_len, pixel_bytes, pixel_of, tint, row_bytes, IsAccepted}
use Rattle.pixel_format.proofs.RowLemmas.{same_pieces}
use Rattle.pixel_format.proofs.Tints.{tint_below}

abbrev width_by : Bool → Bool → Width
width_by eight sixteen = cond eight w8 (cond sixteen w16 w32)

back : (big eight sixteen : Bool) (v : ℕ) → v < 2 ^ (8 * byte_len (width_by eight sixteen))
    → cond big (from_be_bytes (width_by eight sixteen) (cond big (to_be_bytes (width_by eight sixteen) v) (to_le_bytes (width_by eight sixteen) v))) (from_le_bytes (width_by eight sixteen) (cond big (to_be_bytes (width_by eight sixteen) v) (to_le_bytes (width_by eight sixteen) v))) ≡ v
back true true sixteen v h = omega arith
back true false true v h = from_be_bytes-to_be_bytes_2 v h
back true false false v h = from_be_bytes-to_be_bytes_4 v h
back false true sixteen v h = omega arith
back false false true v h = from_le_bytes-to_le_bytes_2 v h
back false false false v h = from_le_bytes-to_le_bytes_4 v h

size : (big eight sixteen : Bool) (v : ℕ) → length (cond big (to_be_bytes (width_by eight sixteen) v) (to_le_bytes (width_by eight sixteen) v)) ≡ byte_len (width_by eight sixteen)
size true true sixteen v = refl
size true false true v = refl
size true false false v = refl
size false true sixteen v = refl
size false false true v = refl
size false false false v = refl

bits_by : (n : ℕ) → ((n == 8) || ((n == 16) || (n == 32))) ≡ true → 8 * byte_len (width_by (n == 8) (n == 16)) ≡ n
bits_by n h = grind (arith, eqb_tells)

-- A pixel's bytes have all its bits.
pub pixel_bits : (format : PixelFormat) → IsAccepted format → 8 * byte_len (pixel_width format) ≡ format.bits_per_pixel
pixel_bits format ok = bits_by format.bits_per_pixel (and_parts _ _ ok).0

-- The value of the bytes of a value.
pub pixel_back : (format : PixelFormat) (v : ℕ) → IsAccepted format → v < 2 ^ format.bits_per_pixel → pixel_of format (pixel_bytes format v) ≡ v
pixel_back format v ok h =
    let below : v < 2 ^ (8 * byte_len (pixel_width format)) = rw (pixel_bits format ok) h in
    back format.big_endian (format.bits_per_pixel == 8) (format.bits_per_pixel == 16) v below

-- A pixel value has as many bytes as a pixel, whatever it is.
pub pixel_size : (format : PixelFormat) (v : ℕ) → length (pixel_bytes format v) ≡ pixel_len format
pixel_size format v = size format.big_endian (format.bits_per_pixel == 8) (format.bits_per_pixel == 16) v

one_byte : (big : Bool) (bits v : ℕ) → bits ≡ 8 → v < 256 → v ∷ [] ≡ cond big (to_be_bytes (width_by (bits == 8) (bits == 16)) v) (to_le_bytes (width_by (bits == 8) (bits == 16)) v)
one_byte true bits v e h = let small : v % 256 ≡ v = omega arith in rw (e, small) refl
one_byte false bits v e h = let small : v % 256 ≡ v = omega arith in rw (e, small) refl

-- In a format of 8 bits a colour's pixel value is its byte.
tint_is_byte : (format : PixelFormat) → IsAccepted format → format.bits_per_pixel ≡ 8 → (colour : ℕ) → tint format colour ∷ [] ≡ pixel_bytes format (tint format colour)
tint_is_byte format ok e colour =
    let below : tint format colour < 2 ^ 8 = rw e at (tint_below format colour ok) in
    one_byte format.big_endian format.bits_per_pixel (tint format colour) e below

two_big : (format : PixelFormat) (v : ℕ) → format.bits_per_pixel ≡ 16 → format.big_endian ≡ true → to_be_bytes w16 v ≡ pixel_bytes format v
two_big format v e b = rw (e, b) refl

two_little : (format : PixelFormat) (v : ℕ) → format.bits_per_pixel ≡ 16 → format.big_endian ≡ false → to_le_bytes w16 v ≡ pixel_bytes format v
two_little format v e b = rw (e, b) refl

four_big : (format : PixelFormat) (v : ℕ) → (format.bits_per_pixel ≡ 8 → ⊥) → (format.bits_per_pixel ≡ 16 → ⊥) → format.big_endian ≡ true → to_be_bytes w32 v ≡ pixel_bytes format v
four_big format v n8 n16 b =
    let e8 : (format.bits_per_pixel == 8) ≡ false = ne_eqb format.bits_per_pixel 8 n8 in
    let e16 : (format.bits_per_pixel == 16) ≡ false = ne_eqb format.bits_per_pixel 16 n16 in
    rw (e8, e16, b) refl

four_little : (format : PixelFormat) (v : ℕ) → (format.bits_per_pixel ≡ 8 → ⊥) → (format.bits_per_pixel ≡ 16 → ⊥) → format.big_endian ≡ false → to_le_bytes w32 v ≡ pixel_bytes format v
four_little format v n8 n16 b =
    let e8 : (format.bits_per_pixel == 8) ≡ false = ne_eqb format.bits_per_pixel 8 n8 in
    let e16 : (format.bits_per_pixel == 16) ≡ false = ne_eqb format.bits_per_pixel 16 n16 in
    rw (e8, e16, b) refl

-- A row of pixels of one, two or four bytes each is the row of the format that has such pixels.
pub row_8 : (format : PixelFormat) (colours : List ℕ) → IsAccepted format → format.bits_per_pixel ≡ 8 → flat_map (λ colour. tint format colour ∷ []) colours ≡ row_bytes format colours
row_8 format colours ok e = same_pieces (λ colour. tint format colour ∷ []) (λ colour. pixel_bytes format (tint format colour)) colours (tint_is_byte format ok e)

pub row_16_big : (format : PixelFormat) (colours : List ℕ) → format.bits_per_pixel ≡ 16 → format.big_endian ≡ true → flat_map (λ colour. to_be_bytes w16 (tint format colour)) colours ≡ row_bytes format colours
row_16_big format colours e b = same_pieces (λ colour. to_be_bytes w16 (tint format colour)) (λ colour. pixel_bytes format (tint format colour)) colours (λ colour. two_big format (tint format colour) e b)

pub row_16_little : (format : PixelFormat) (colours : List ℕ) → format.bits_per_pixel ≡ 16 → format.big_endian ≡ false → flat_map (λ colour. to_le_bytes w16 (tint format colour)) colours ≡ row_bytes format colours
row_16_little format colours e b = same_pieces (λ colour. to_le_bytes w16 (tint format colour)) (λ colour. pixel_bytes format (tint format colour)) colours (λ colour. two_little format (tint format colour) e b)

pub row_32_big : (format : PixelFormat) (colours : List ℕ) → (format.bits_per_pixel ≡ 8 → ⊥) → (format.bits_per_pixel ≡ 16 → ⊥) → format.big_endian ≡ true → flat_map (λ colour. to_be_bytes w32 (tint format colour)) colours ≡ row_bytes format colours
row_32_big format colours n8 n16 b = same_pieces (λ colour. to_be_bytes w32 (tint format colour)) (λ colour. pixel_bytes format (tint format colour)) colours (λ colour. four_big format (tint format colour) n8 n16 b)

pub row_32_little : (format : PixelFormat) (colours : List ℕ) → (format.bits_per_pixel ≡ 8 → ⊥) → (format.bits_per_pixel ≡ 16 → ⊥) → format.big_endian ≡ false → flat_map (λ colour. to_le_bytes w32 (tint format colour)) colours ≡ row_bytes format colours
row_32_little format colours n8 n16 b = same_pieces (λ colour. to_le_bytes w32 (tint format colour)) (λ colour. pixel_bytes format (tint format colour)) colours (λ colour. four_little format (tint format colour) n8 n16 b)

-- Of a value the two lowest bytes are written.
pub low_byte : (v : ℕ) → v % 65536 % 256 ≡ v % 256
low_byte v = omega arith

pub high_byte : (v : ℕ) → v % 65536 / 256 % 256 ≡ v / 256 % 256
high_byte v = omega arith

-- A row of values in a format's bytes.
pub values_16_little : (format : PixelFormat) (values : List ℕ) → format.bits_per_pixel ≡ 16 → format.big_endian ≡ false → flat_map (to_le_bytes w16) values ≡ flat_map (pixel_bytes format) values
values_16_little format values e b = same_pieces (to_le_bytes w16) (pixel_bytes format) values (λ v. two_little format v e b)

pub values_32_little : (format : PixelFormat) (values : List ℕ) → format.bits_per_pixel ≡ 32 → format.big_endian ≡ false → flat_map (to_le_bytes w32) values ≡ flat_map (pixel_bytes format) values
values_32_little format values e b = same_pieces (to_le_bytes w32) (pixel_bytes format) values (λ v. four_little format v (λ f. absurd (omega (arith, e, f))) (λ f. absurd (omega (arith, e, f))) b)

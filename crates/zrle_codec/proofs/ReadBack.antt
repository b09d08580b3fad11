-- A colour's pixel value is read back from its CPIXEL, since the byte that is left off is 0: of a value in the three
-- low bytes the high one, and of one in the three high bytes the low one.
use Rattle.std.proofs.Common.{◌≡◌, ℕ, ◌+◌, ◌-◌, ◌*◌, ◌/◌, ◌%◌, ◌^◌, ◌<◌, ◌≤◌, Bool, true, false, cond, ◌&&◌, ◌||◌, not, nat_le, List, [], ◌∷◌, ◌++◌, ◌∙◌, take, drop, replicate, refl, sym, ap, arith}
use Rattle.std.specs.Prelude.{◌==◌, slice_index}
use Rattle.std.specs.Int.{Width, w8, w16, w32, byte_len, to_be_bytes, to_le_bytes}
use Rattle.std.proofs.Math.Nat.{mul-le-mul_right, mul_assoc}
use Rattle.std.proofs.lemmas.Bool.{and_parts, ltb-true, leb-true, eqb-true}
use Rattle.std.proofs.lemmas.List.{append-nil, take_all}
use Rattle.std.proofs.lemmas.Nat.{pow-add}
use Rattle.pixel_format.specs.PixelFormat.{PixelFormat, Channel, pixel_bytes, pixel_of, pixel_len, tint, on_channel, red_of, green_of, blue_of}
use Rattle.pixel_format.proofs.Pixels.{pixel_back, pixel_size}
use Rattle.pixel_format.proofs.Tints.{tint_below}
use Rattle.zrle_codec.specs.Cpixel.{has_spare_byte, lies_low, lies_high, leaves_last, leaves_first, cpixel_from, cpixel_len, cpixel_bytes, cpixel_value, received, CpixelsAreReadBack}

either : {P : Type 0} (b : Bool) → (b ≡ true → P) → (b ≡ false → P) → P
either true here there = here refl
either false here there = there refl

-- ---- where the bits of a colour lie

channel_below : (channel : Channel) (component : ℕ) → component ≤ 255 → on_channel channel component ≤ on_channel channel 255
channel_below channel component le =
    let more : component * channel.max ≤ 255 * channel.max = mul-le-mul_right {m = component} {n = 255} channel.max le in
    mul-le-mul_right {m = (component * channel.max + 127) / 255} {n = (255 * channel.max + 127) / 255} (2 ^ channel.shift) (omega (arith, more))

low : (format : PixelFormat) (colour : ℕ) → lies_low format ≡ true → tint format colour < 2 ^ 24
low format colour lies =
    let white : tint format 0xFFFFFF < 2 ^ 24 = ltb-true (tint format 0xFFFFFF) (2 ^ 24) lies in
    let red = channel_below format.red (red_of colour) (omega arith) in
    let green = channel_below format.green (green_of colour) (omega arith) in
    let blue = channel_below format.blue (blue_of colour) (omega arith) in
    omega (arith, white, red, green, blue)

channel_high : (channel : Channel) (component : ℕ) → 8 ≤ channel.shift → on_channel channel component ≡ (component * channel.max + 127) / 255 * 2 ^ (channel.shift - 8) * 256
channel_high channel component le =
    let scaled : ℕ = (component * channel.max + 127) / 255 in
    let power : 2 ^ channel.shift ≡ 2 ^ (channel.shift - 8) * 256 = ap (λ k. 2 ^ k) (omega arith) ∙ pow-add 2 (channel.shift - 8) 8 in
    ap (λ p. scaled * p) power ∙ sym (mul_assoc scaled (2 ^ (channel.shift - 8)) 256)

high : (format : PixelFormat) (colour : ℕ) → lies_high format ≡ true → tint format colour % 256 ≡ 0
high format colour lies =
    let one = and_parts (nat_le 8 format.red.shift) (nat_le 8 format.green.shift && nat_le 8 format.blue.shift) lies in
    let two = and_parts (nat_le 8 format.green.shift) (nat_le 8 format.blue.shift) one.1 in
    let red = channel_high format.red (red_of colour) (leb-true 8 format.red.shift one.0) in
    let green = channel_high format.green (green_of colour) (leb-true 8 format.green.shift two.0) in
    let blue = channel_high format.blue (blue_of colour) (leb-true 8 format.blue.shift two.1) in
    omega (arith, red, green, blue)

-- ---- a byte of 0 in the place of the one that is left off

abbrev width_by : Bool → Bool → Width
width_by eight sixteen = cond eight w8 (cond sixteen w16 w32)

abbrev bytes_by : Bool → Bool → Bool → ℕ → List ℕ
bytes_by big eight sixteen v = cond big (to_be_bytes (width_by eight sixteen) v) (to_le_bytes (width_by eight sixteen) v)

last_is_0 : (big eight sixteen : Bool) (v : ℕ) → byte_len (width_by eight sixteen) ≡ 4 → (big ≡ true → v % 256 ≡ 0) → (big ≡ false → v < 2 ^ 24)
    → take 3 (bytes_by big eight sixteen v) ++ 0 ∷ [] ≡ bytes_by big eight sixteen v
last_is_0 big true sixteen v four high low = absurd (omega (arith, four))
last_is_0 big false true v four high low = absurd (omega (arith, four))
last_is_0 true false false v four high low = let e : 0 ≡ slice_index (to_be_bytes w32 v) 3 = omega (arith, high refl) in ap (λ b. take 3 (to_be_bytes w32 v) ++ b ∷ []) e
last_is_0 false false false v four high low = let e : 0 ≡ slice_index (to_le_bytes w32 v) 3 = omega (arith, low refl) in ap (λ b. take 3 (to_le_bytes w32 v) ++ b ∷ []) e

first_is_0 : (big eight sixteen : Bool) (v : ℕ) → byte_len (width_by eight sixteen) ≡ 4 → (big ≡ true → v < 2 ^ 24) → (big ≡ false → v % 256 ≡ 0)
    → 0 ∷ (take 3 (drop 1 (bytes_by big eight sixteen v)) ++ []) ≡ bytes_by big eight sixteen v
first_is_0 big true sixteen v four low high = absurd (omega (arith, four))
first_is_0 big false true v four low high = absurd (omega (arith, four))
first_is_0 true false false v four low high = let e : 0 ≡ slice_index (to_be_bytes w32 v) 0 = omega (arith, low refl) in ap (λ b. b ∷ drop 1 (to_be_bytes w32 v)) e
first_is_0 false false false v four low high = let e : 0 ≡ slice_index (to_le_bytes w32 v) 0 = omega (arith, high refl) in ap (λ b. b ∷ drop 1 (to_le_bytes w32 v)) e

-- ---- the bytes of a pixel, from its CPIXEL

-- what stands for a pixel that has so many bytes, where so many from a place on are sent
abbrev filled : (from len n : ℕ) → List ℕ → List ℕ
filled from len n bytes = replicate from 0 ++ (take len (drop from bytes) ++ replicate (n - (from + len)) 0)

filled_is : (f l n from len many : ℕ) (bytes : List ℕ) → f ≡ from → l ≡ len → n ≡ many → filled from len many bytes ≡ bytes → filled f l n bytes ≡ bytes
filled_is f l n from len many bytes a b c is = ap (λ k. filled k l n bytes) a ∙ (ap (λ k. filled from k n bytes) b ∙ (ap (λ k. filled from len k bytes) c ∙ is))

-- the part of a choice that is taken
chosen : (big one other : Bool) → cond big one other ≡ true → (big ≡ true → one ≡ true) × (big ≡ false → other ≡ true)
chosen true one other is = (λ e. is, λ e. absurd (cc))
chosen false one other is = (λ e. absurd (cc), λ e. is)

first_stays : (format : PixelFormat) → leaves_last format ≡ true → leaves_first format ≡ false
unfolding leaves_first
first_stays format e = ap (λ b. not b && (has_spare_byte format && cond format.big_endian (lies_low format) (lies_high format))) e

last_parts : (format : PixelFormat) → leaves_last format ≡ true → (has_spare_byte format ≡ true) × (cond format.big_endian (lies_high format) (lies_low format) ≡ true)
unfolding leaves_last
last_parts format e = and_parts (has_spare_byte format) (cond format.big_endian (lies_high format) (lies_low format)) e

first_parts : (format : PixelFormat) → leaves_first format ≡ true → (has_spare_byte format ≡ true) × (cond format.big_endian (lies_low format) (lies_high format) ≡ true)
unfolding leaves_first
first_parts format e =
    and_parts (has_spare_byte format) (cond format.big_endian (lies_low format) (lies_high format))
    (and_parts (not (leaves_last format)) (has_spare_byte format && cond format.big_endian (lies_low format) (lies_high format)) e).1

from_is : (format : PixelFormat) (first : Bool) → leaves_first format ≡ first → cpixel_from format ≡ cond first 1 0
unfolding cpixel_from
from_is format first e = ap (λ b. cond b 1 0) e

len_is : (format : PixelFormat) (last first : Bool) → leaves_last format ≡ last → leaves_first format ≡ first → cpixel_len format ≡ cond (last || first) 3 (pixel_len format)
unfolding cpixel_len
len_is format last first a b = ap (λ l. cond (l || leaves_first format) 3 (pixel_len format)) a ∙ ap (λ f. cond (last || f) 3 (pixel_len format)) b

four_bytes : (format : PixelFormat) → has_spare_byte format ≡ true → pixel_len format ≡ 4
four_bytes format e = eqb-true (pixel_len format) 4 (and_parts (pixel_len format == 4) (nat_le format.depth 24) e).0

pixel_filled : (format : PixelFormat) (v : ℕ) → (lies_low format ≡ true → v < 2 ^ 24) → (lies_high format ≡ true → v % 256 ≡ 0)
    → filled (cpixel_from format) (cpixel_len format) (pixel_len format) (pixel_bytes format v) ≡ pixel_bytes format v
pixel_filled format v is_low is_high =
    let bytes : List ℕ = pixel_bytes format v in
    let n : ℕ = pixel_len format in
    let big : Bool = format.big_endian in
    let nothing : n - (0 + n) ≡ 0 = omega arith in
    either (leaves_last format)
    (λ e.
    let parts = last_parts format e in
    let which = chosen big (lies_high format) (lies_low format) parts.1 in
    let stays = first_stays format e in
    filled_is (cpixel_from format) (cpixel_len format) n 0 3 4 bytes (from_is format false stays) (len_is format true false e stays) (four_bytes format parts.0)
    (last_is_0 big (format.bits_per_pixel == 8) (format.bits_per_pixel == 16) v (four_bytes format parts.0) (λ b. is_high (which.0 b)) (λ b. is_low (which.1 b))))
    (λ e.
    either (leaves_first format)
    (λ first.
    let parts = first_parts format first in
    let which = chosen big (lies_low format) (lies_high format) parts.1 in
    filled_is (cpixel_from format) (cpixel_len format) n 1 3 4 bytes (from_is format true first) (len_is format false true e first) (four_bytes format parts.0)
    (first_is_0 big (format.bits_per_pixel == 8) (format.bits_per_pixel == 16) v (four_bytes format parts.0) (λ b. is_low (which.0 b)) (λ b. is_high (which.1 b))))
    (λ neither.
    filled_is (cpixel_from format) (cpixel_len format) n 0 n n bytes (from_is format false neither) (len_is format false false e neither) refl
    (ap (λ k. take n bytes ++ replicate k 0) nothing ∙ (append-nil (take n bytes) ∙ take_all n bytes (omega (arith, pixel_size format v))))))

pub read_back : CpixelsAreReadBack
unfolding received cpixel_value cpixel_bytes
read_back format colour accepted =
    let v : ℕ = tint format colour in
    ap (pixel_of format) (pixel_filled format v (low format colour) (high format colour)) ∙ pixel_back format v accepted (tint_below format colour accepted)

-- CPIXELs, the pixels of ZRLE (RFC 6143, 7.7.5).
use Rattle.std.specs.Prelude.{◌≡◌, ℕ, ◌+◌, ◌-◌, ◌^◌, Bool, ◌&&◌, ◌||◌, not, ◌==◌, nat_lt, nat_le, if◌then◌else◌, List, ◌++◌, take, drop, replicate}
use Rattle.pixel_format.specs.PixelFormat.{PixelFormat, pixel_bytes, pixel_of, pixel_len, tint, IsAccepted}

-- The bits of the colours lie in the three low bytes of a pixel: so does white, which has all of them.
abbrev pub lies_low : PixelFormat → Bool
lies_low format = nat_lt (tint format 0xFFFFFF) (2 ^ 24)

-- They lie in the three high bytes: no channel begins in the lowest one.
abbrev pub lies_high : PixelFormat → Bool
lies_high format = nat_le 8 format.red.shift && (nat_le 8 format.green.shift && nat_le 8 format.blue.shift)

-- A pixel has four bytes and a depth of at most 24.
abbrev pub has_spare_byte : PixelFormat → Bool
has_spare_byte format = (pixel_len format == 4) && nat_le format.depth 24

-- The last byte of a pixel is left off: the high one of a little-endian format, or the low one of a big-endian one.
-- Where both the low and the high one may be left off, it is this too (own: the RFC leaves it open).
unfoldable pub leaves_last : PixelFormat → Bool
leaves_last format = has_spare_byte format && (if format.big_endian then lies_high format else lies_low format)

-- The first byte of a pixel is left off.
unfoldable pub leaves_first : PixelFormat → Bool
leaves_first format = not (leaves_last format) && (has_spare_byte format && (if format.big_endian then lies_low format else lies_high format))

-- Where a CPIXEL begins in the bytes of a pixel.
unfoldable pub cpixel_from : PixelFormat → ℕ
cpixel_from format = if leaves_first format then 1 else 0

-- How many bytes a CPIXEL has.
unfoldable pub cpixel_len : PixelFormat → ℕ
cpixel_len format = if leaves_last format || leaves_first format then 3 else pixel_len format

-- The CPIXEL of a pixel value.
unfoldable pub cpixel_bytes : PixelFormat → ℕ → List ℕ
cpixel_bytes format value = take (cpixel_len format) (drop (cpixel_from format) (pixel_bytes format value))

-- The pixel value that a CPIXEL stands for: a byte that was left off is 0.
unfoldable pub cpixel_value : PixelFormat → List ℕ → ℕ
cpixel_value format bytes =
    pixel_of format (replicate (cpixel_from format) 0 ++ (bytes ++ replicate (pixel_len format - (cpixel_from format + cpixel_len format)) 0))

-- A pixel value as it is received: the one that its CPIXEL stands for.
unfoldable pub received : PixelFormat → ℕ → ℕ
received format value = cpixel_value format (cpixel_bytes format value)

-- A colour's pixel value is received as it is.
abbrev pub CpixelsAreReadBack : Type 0
CpixelsAreReadBack = (format : PixelFormat) (colour : ℕ) → IsAccepted format → received format (tint format colour) ≡ tint format colour

-- A rectangle in ZRLE on the wire (RFC 6143, 7.7.6), before its data are inflated.
use Rattle.std.specs.Prelude.{ℕ, not, ◌==◌, List, ◌++◌, length, Option}
use Rattle.std.specs.Int.{w32, to_be_bytes}
use Rattle.byte_reading.specs.Reading.{Reading, Done, ◌>>=◌, bytes, u32, unless}
use Rattle.fault.specs.declared.kinds.Fault.TheVariants.{UnknownEncoding}
use Rattle.raster.specs.declared.rect.Rect.{Rect}
use Rattle.raster.specs.Encoding.{rect}
use Rattle.rfb_wire.specs.Writing.{rectangle_bytes}

-- The number of ZRLE in a rectangle's header (7.7.6).
abbrev pub zrle : ℕ
zrle = 16

-- The data of a rectangle in ZRLE: how many bytes of zlib data there are, in four bytes, and the zlib data (7.7.6).
abbrev pub zrle_data_bytes : List ℕ → List ℕ
zrle_data_bytes zlib_data = to_be_bytes w32 (length zlib_data) ++ zlib_data

-- A rectangle in ZRLE: a header of 12 bytes, and such data.
abbrev pub zrle_rectangle_bytes : Rect → List ℕ → List ℕ
zrle_rectangle_bytes area zlib_data = rectangle_bytes area zrle (zrle_data_bytes zlib_data)

-- How it is read: where it lies, and its zlib data.
abbrev pub zrle_rectangle : Reading (Rect × List ℕ)
zrle_rectangle = do
  area ← rect
  encoding ← u32
  unless (not (encoding == zrle)) UnknownEncoding (u32 >>= λ len. bytes len >>= λ zlib_data. Done (area, zlib_data))

-- The state of a connection's zlib stream: what was inflated so far, or None before its first bytes (RFC 1950, 2.2).
abbrev pub ZlibStream : Type 0
ZlibStream = Option (List ℕ)

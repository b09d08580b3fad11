-- Tiles that have no more bytes than Raw ones.
use Rattle.std.proofs.Common.{◌≡◌, ℕ, ◌+◌, ◌-◌, ◌*◌, ◌≤◌, List, ◌∷◌, ◌++◌, ◌∙◌, length, take, replicate, ap, arith, length-append}
use Rattle.std.specs.List.{flat_map}
use Rattle.std.proofs.Math.Nat.{mul-le-mul_left, mul-le-mul_right}
use Rattle.std.proofs.Math.Seq.{take-append_seam}
use Rattle.pixel_format.specs.PixelFormat.{PixelFormat, pixel_len}
use Rattle.zrle_codec.specs.Cpixel.{cpixel_bytes, cpixel_from, cpixel_len}
use Rattle.zrle_codec.specs.Tiles.{AppendsSome, AppendsTile}
use Rattle.zrle_codec.proofs.Lengths.{cpixel_size, cpixels_size}
use Rattle.zrle_codec.proofs.Forms.{raw_tile, solid_tile}

-- what bytes of a row of CPIXELs come to at most
pub few_bytes : (a n : ℕ) → a ≤ 4 → n ≤ 4096 → a * n ≤ 16384
few_bytes a n few short = omega (arith, mul-le-mul_right {m = a} {n = 4} n few)

pub solid_appended : (format : PixelFormat) (w h v : ℕ) (values old new : List ℕ) → cpixel_from format + cpixel_len format ≤ pixel_len format → 1 ≤ w * h → length values ≡ w * h
    → values ≡ replicate (length values) v → new ≡ old ++ 1 ∷ cpixel_bytes format v → AppendsTile format w h values old new
solid_appended format w h v values old new inside some size same put = record {
  bytes = 1 ∷ cpixel_bytes format v;
  spells = solid_tile format w h v values size same;
  appended = put;
  few = omega (arith, cpixel_size format v inside, mul-le-mul_left {m = 1} {n = w * h} (cpixel_len format) some);
}

pub raw_appended : (format : PixelFormat) (w h : ℕ) (values old new : List ℕ) → cpixel_from format + cpixel_len format ≤ pixel_len format → length values ≡ w * h
    → new ≡ old ++ 0 ∷ flat_map (cpixel_bytes format) values → AppendsTile format w h values old new
raw_appended format w h values old new inside size put = record {
  bytes = 0 ∷ flat_map (cpixel_bytes format) values;
  spells = raw_tile format w h values size;
  appended = put;
  few = omega (arith, cpixels_size format values inside, ap (λ n. cpixel_len format * n) size);
}

-- how much longer a list is
pub longer : (format : PixelFormat) (w h : ℕ) (values old new : List ℕ) (some : AppendsSome format w h values old new) → length new ≡ length old + length some.bytes
longer format w h values old new some = ap (λ t. length t) some.appended ∙ length-append old some.bytes

pub kept_appended : (format : PixelFormat) (w h most : ℕ) (values old new : List ℕ) → AppendsSome format w h values old new → length new - length old ≤ most → most ≡ 1 + cpixel_len format * (w * h)
    → AppendsTile format w h values old new
kept_appended format w h most values old new some le is = record {
  bytes = some.bytes;
  spells = some.spells;
  appended = some.appended;
  few = omega (arith, longer format w h values old new some);
}

-- what was appended is taken off
pub taken_off : (format : PixelFormat) (w h : ℕ) (values old new : List ℕ) → AppendsSome format w h values old new → take (length old) new ≡ old
taken_off format w h values old new some = ap (λ t. take (length old) t) some.appended ∙ take-append_seam old some.bytes

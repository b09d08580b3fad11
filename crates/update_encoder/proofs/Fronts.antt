-- What is at the front of a piece: a header of 12 bytes, and data after it. A rectangle is written so.
use Rattle.std.proofs.Common.{◌≡◌, ℕ, ◌+◌, ◌*◌, ◌≤◌, Bool, true, false, cond, List, [], ◌++◌, length, take, drop, sym, ap, ◌∙◌, arith, length-append}
use Rattle.std.specs.Prelude.{◌==◌, map}
use Rattle.std.proofs.lemmas.List.{append-nil, drop_all, length-take, length-take-le, take-append-le}
use Rattle.std.proofs.lemmas.List.Folds.{flat_map-map}
use Rattle.std.proofs.Math.Nat.{mul-le-mul_right}
use Rattle.std.proofs.Math.Seq.{take-append-add}
use Rattle.std.specs.Int.{byte_len, w8, w16, w32}
use Rattle.pixel_format.specs.PixelFormat.{PixelFormat, pixel_bytes, pixel_len, row_bytes, tint}
use Rattle.raster.specs.Encoding.{raw_bytes}
use Rattle.rfb_wire.specs.Writing.{Writes}
use Rattle.update_encoder.specs.Written.{IsFront}

-- What fills a part of its length is all of that part.
pub written_whole : (spelling old new : List ℕ) (count : ℕ) → Writes spelling old new count → length old ≡ length spelling → new ≡ spelling
written_whole spelling old new count k len =
    let nothing : drop (length spelling) old ≡ [] = drop_all (length spelling) old (omega (arith, len)) in
    k.written ∙ (ap (λ t. spelling ++ t) nothing ∙ append-nil spelling)

-- A head, and data after it.
pub head_then : (head data_bytes h rest : List ℕ) (n k : ℕ) → h ≡ head → length head ≡ 12 → k ≡ length data_bytes → take k rest ≡ data_bytes → n ≡ 12 + k → IsFront (head ++ data_bytes) (h ++ rest) n
head_then head data_bytes h rest n k same twelve count front all =
    let len : n ≡ length head + k = omega (arith, all, twelve) in
    record {
      count = omega (arith, len, count, length-append head data_bytes);
      front = ap (λ i. take i (h ++ rest)) len ∙ (ap (λ t. take (length head + k) (t ++ rest)) same ∙ (take-append-add head rest k ∙ ap (λ t. head ++ t) front));
    }

-- ---- Raw

pub raw_is_rows : (format : PixelFormat) (colours : List ℕ) → row_bytes format colours ≡ raw_bytes format (map (tint format) colours)
raw_is_rows format colours = sym (flat_map-map (pixel_bytes format) (tint format) colours)

few : (eight sixteen : Bool) → byte_len (cond eight w8 (cond sixteen w16 w32)) ≤ 4
few true sixteen = omega arith
few false true = omega arith
few false false = omega arith

-- A pixel has at most 4 bytes.
pub pixel_few : (format : PixelFormat) → pixel_len format ≤ 4
pixel_few format = few (format.bits_per_pixel == 8) (format.bits_per_pixel == 16)

pub pixels_few : (format : PixelFormat) (n : ℕ) → pixel_len format * n ≤ 4 * n
pixels_few format n = mul-le-mul_right n (pixel_few format)

-- What is taken of a list isn't more than it has.
pub within_front : (bytes now : List ℕ) (n : ℕ) → n ≡ length bytes → take n now ≡ bytes → n ≤ length now
within_front bytes now n count front = omega (arith, count, ap length front, length-take n now)

-- What is put behind a front, and what stood before it, are a longer front.
pub goes_on : (front bytes out new rest : List ℕ) (at n : ℕ) → at ≤ length out → take at out ≡ front → IsFront bytes new n → take (at + n) (take at out ++ (new ++ rest)) ≡ front ++ bytes
goes_on front bytes out new rest at n le before now =
    ap (λ k. take (k + n) (take at out ++ (new ++ rest))) (sym (length-take-le at out le))
    ∙ (take-append-add (take at out) (new ++ rest) n
    ∙ (ap (λ t. take at out ++ t) (take-append-le n new rest (within_front bytes new n now.count now.front) ∙ now.front)
    ∙ ap (λ t. t ++ bytes) before))

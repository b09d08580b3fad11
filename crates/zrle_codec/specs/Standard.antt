-- What RFC 6143, 7.7.5 and 7.7.6, says of lengths in its own words, to which the definitions of bytes are held.
use Rattle.std.specs.Prelude.{◌≡◌, ℕ, ◌+◌, ◌*◌, ◌/◌, ◌≤◌, nat_le, if◌then◌else◌, List, [], ◌∷◌, length}
use Rattle.std.specs.List.{sum}
use Rattle.zrle_codec.specs.Tiles.{len_bytes, index_bits, packed_rows}

-- A run's length is one more than the sum of its bytes. The RFC's examples follow.
pub record RunLengthsAreTheStandards : Type 0 where
  pub one_more : (len : ℕ) → 1 ≤ len → sum (len_bytes len) + 1 ≡ len
  pub of_1 : len_bytes 1 ≡ 0 ∷ []
  pub of_255 : len_bytes 255 ≡ 254 ∷ []
  pub of_256 : len_bytes 256 ≡ 255 ∷ 0 ∷ []
  pub of_257 : len_bytes 257 ≡ 255 ∷ 1 ∷ []
  pub of_510 : len_bytes 510 ≡ 255 ∷ 254 ∷ []
  pub of_511 : len_bytes 511 ≡ 255 ∷ 255 ∷ 0 ∷ []

-- Packed indices of a tile of w by h have this many bytes, where the palette has so many colours: each row is padded.
abbrev pub packed_len : ℕ → ℕ → ℕ → ℕ
packed_len colours w h = if nat_le colours 2 then (w + 7) / 8 * h else (if nat_le colours 4 then (w + 3) / 4 * h else (w + 1) / 2 * h)

abbrev pub PackedLengthsAreTheStandards : Type 0
PackedLengthsAreTheStandards = (colours w h : ℕ) (indices : List ℕ) → length indices ≡ w * h → length (packed_rows (index_bits colours) w h indices) ≡ packed_len colours w h

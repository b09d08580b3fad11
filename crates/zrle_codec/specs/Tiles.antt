-- One tile of ZRLE (RFC 6143, 7.7.6).
use Rattle.std.specs.Prelude.{◌≡◌, ℕ, ◌+◌, ◌-◌, ◌*◌, ◌/◌, ◌%◌, ◌<◌, ◌≤◌, nat_le, ◌==◌, if◌then◌else◌, List, [], ◌∷◌, ◌++◌, length, map, take, drop, replicate, slice_index, EachIndex}
use Rattle.std.specs.List.{flat_map, range_with_len, All}
use Rattle.pixel_format.specs.PixelFormat.{PixelFormat}
use Rattle.zrle_codec.specs.Cpixel.{cpixel_bytes, cpixel_len, received}

-- So many positions, one after another, of one value: a pixel value, or the index of one in a palette.
pub record Run : Type 0 where
  pub value : ℕ
  pub len : ℕ

-- The forms of a tile. Positions go from left to right and from the top down, and a run goes on in the next row.
pub data ZrleTile : Type 0 where
  -- pixel values
  Raw : List ℕ → ZrleTile
  -- the one pixel value
  Solid : ℕ → ZrleTile
  -- a palette, and an index for each position
  Packed : List ℕ → List ℕ → ZrleTile
  -- runs of pixel values
  PlainRuns : List Run → ZrleTile
  -- a palette, and runs of indices
  PaletteRuns : List ℕ → List Run → ZrleTile

-- ---- what a tile sends

-- What a run stands for.
unfoldable pub run_shows : Run → List ℕ
run_shows r = replicate r.len r.value

-- What indices of a palette stand for.
abbrev pub looked_up : List ℕ → List ℕ → List ℕ
looked_up palette indices = map (slice_index palette) indices

-- The pixel values that a tile of w by h sends.
unfoldable pub tile_shows : ℕ → ℕ → ZrleTile → List ℕ
tile_shows w h (Raw values) = values
tile_shows w h (Solid value) = replicate (w * h) value
tile_shows w h (Packed palette indices) = looked_up palette indices
tile_shows w h (PlainRuns runs) = flat_map run_shows runs
tile_shows w h (PaletteRuns palette runs) = looked_up palette (flat_map run_shows runs)

-- A palette has at least two and at most so many pixel values, and indices are of these.
abbrev pub ArePaletted : ℕ → List ℕ → List ℕ → Type 0
ArePaletted most palette indices = (2 ≤ length palette) × (length palette ≤ most) × (EachIndex indices (λ k. slice_index indices k < length palette))

-- No run is empty.
abbrev pub AreRuns : List Run → Type 0
AreRuns runs = All (λ r. 1 ≤ r.len) runs

-- Besides that it sends w * h pixel values: what a tile has to be like.
unfoldable pub IsWellFormed : ZrleTile → Type 0
IsWellFormed (Raw values) = Unit {0}
IsWellFormed (Solid value) = Unit {0}
IsWellFormed (Packed palette indices) = ArePaletted 16 palette indices
IsWellFormed (PlainRuns runs) = AreRuns runs
IsWellFormed (PaletteRuns palette runs) = ArePaletted 127 palette (flat_map run_shows runs) × AreRuns runs

-- A tile fits w by h.
pub record Fits (w h : ℕ) (tile : ZrleTile) : Type 0 where
  pub count : length (tile_shows w h tile) ≡ w * h
  pub form : IsWellFormed tile

-- ---- a tile's bytes

-- The length of a run: less one, as bytes of 255 and a last one below 255, which are added up.
unfoldable pub len_bytes : ℕ → List ℕ
len_bytes len = replicate ((len - 1) / 255) 255 ++ (len - 1) % 255 ∷ []

-- A run of pixel values.
unfoldable pub plain_run_bytes : PixelFormat → Run → List ℕ
plain_run_bytes format r = cpixel_bytes format r.value ++ len_bytes r.len

-- A run of indices: the index alone for one position, and otherwise 128 more and the length.
unfoldable pub index_run_bytes : Run → List ℕ
index_run_bytes r = if r.len == 1 then r.value ∷ [] else (r.value + 128) ∷ len_bytes r.len

-- How many bits an index has, where a palette has so many colours and no runs follow it.
unfoldable pub index_bits : ℕ → ℕ
index_bits colours = if nat_le colours 2 then 1 else (if nat_le colours 4 then 2 else 4)

-- Byte number j of a row of indices of 1, 2 or 4 bits, the first index in the highest bits. Behind the row's end
-- stands 0.
unfoldable pub packed_byte : ℕ → List ℕ → ℕ → ℕ
packed_byte bits row j =
    let i : ℕ → ℕ = slice_index row in
    if bits == 1 then
    i (8 * j) * 128 + i (8 * j + 1) * 64 + i (8 * j + 2) * 32 + i (8 * j + 3) * 16 + i (8 * j + 4) * 8 + i (8 * j + 5) * 4 + i (8 * j + 6) * 2 + i (8 * j + 7)
    else (if bits == 2 then i (4 * j) * 64 + i (4 * j + 1) * 16 + i (4 * j + 2) * 4 + i (4 * j + 3)
    else i (2 * j) * 16 + i (2 * j + 1))

-- A row of indices, up to a whole byte.
unfoldable pub packed_row : ℕ → List ℕ → List ℕ
packed_row bits row = map (packed_byte bits row) (range_with_len 0 ((length row * bits + 7) / 8))

-- Row y of a list in rows of w.
abbrev pub row_of : ℕ → List ℕ → ℕ → List ℕ
row_of w indices y = take w (drop (y * w) indices)

-- The rows of indices.
unfoldable pub packed_rows : ℕ → ℕ → ℕ → List ℕ → List ℕ
packed_rows bits w h indices = flat_map (λ y. packed_row bits (row_of w indices y)) (range_with_len 0 h)

-- The bytes of a tile of w by h: the subencoding, and what it announces.
unfoldable pub tile_bytes : PixelFormat → ℕ → ℕ → ZrleTile → List ℕ
tile_bytes format w h (Raw values) = 0 ∷ flat_map (cpixel_bytes format) values
tile_bytes format w h (Solid value) = 1 ∷ cpixel_bytes format value
tile_bytes format w h (Packed palette indices) =
    length palette ∷ (flat_map (cpixel_bytes format) palette ++ packed_rows (index_bits (length palette)) w h indices)
tile_bytes format w h (PlainRuns runs) = 128 ∷ flat_map (plain_run_bytes format) runs
tile_bytes format w h (PaletteRuns palette runs) =
    (length palette + 128) ∷ (flat_map (cpixel_bytes format) palette ++ flat_map index_run_bytes runs)

-- How many bytes a Raw tile has.
abbrev pub raw_len : PixelFormat → ℕ → ℕ → ℕ
raw_len format w h = 1 + cpixel_len format * (w * h)

-- These bytes are a tile that draws these pixel values: those that it sends, each as it is received.
pub record SpellsTile (format : PixelFormat) (w h : ℕ) (values bytes : List ℕ) : Type 0 where
  pub tile : ZrleTile
  pub fits : Fits w h tile
  pub shows : map (received format) (tile_shows w h tile) ≡ values
  pub are : bytes ≡ tile_bytes format w h tile

-- Behind the old bytes stand those of a tile that draws these pixel values, each as it is received.
pub record AppendsSome (format : PixelFormat) (w h : ℕ) (values old new : List ℕ) : Type 0 where
  pub bytes : List ℕ
  pub spells : SpellsTile format w h (map (received format) values) bytes
  pub appended : new ≡ old ++ bytes

-- And the tile has no more bytes than a Raw one.
pub record AppendsTile (format : PixelFormat) (w h : ℕ) (values old new : List ℕ) : Type 0 where
  pub bytes : List ℕ
  pub spells : SpellsTile format w h (map (received format) values) bytes
  pub appended : new ≡ old ++ bytes
  pub few : length bytes ≤ raw_len format w h

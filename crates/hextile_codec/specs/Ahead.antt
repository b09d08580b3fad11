-- How reading Hextile goes on (RFC 6143, 7.7.4).
use Rattle.std.specs.Prelude.{◌≡◌, ℕ, zero, suc, ◌+◌, ◌-◌, ◌*◌, ◌/◌, ◌<◌, ◌≤◌, ◌==◌, ◌%◌, List, [], ◌∷◌, ◌++◌, length, take, drop, Option, Some, Bool, true, false, ◌&&◌, not, nat_lt, if◌then◌else◌, unwrap_or}
use Rattle.pixel_format.specs.PixelFormat.{PixelFormat, pixel_len, pixel_of}
use Rattle.byte_reading.specs.Reading.{Reading, Done, Faulty, ◌>>=◌, after, times, wants_more}
use Rattle.fault.specs.declared.kinds.Fault.{Fault}
use Rattle.fault.specs.declared.kinds.Fault.TheVariants.{SubrectOutside, NoBackground, NoForeground}
use Rattle.raster.specs.declared.rect.Rect.{Rect}
use Rattle.raster.specs.Screen.{Canvas, LooksLike, IsWithin, holds, part_of, value_at, tiles_across, tile_count, tile_rect, kept}
use Rattle.raster.specs.Encoding.{Drawing, drawn, Carried, Tile, Pixels, Drawn, has_bit, pixel, tile, drawn_tile, hextile_subrect, tiles_from, tiled}
use Rattle.raster.specs.Reader.{Goes}
use Rattle.hextile_codec.specs.Carried.{carried_by}
use Rattle.hextile_codec.specs.declared.colours.Colours.{Colours}
use Rattle.hextile_codec.specs.declared.drawing.Drawn as outcome
use Rattle.hextile_codec.specs.declared.stage.Flaw.{Flaw}
use Rattle.hextile_codec.specs.declared.stage.Flaw.TheVariants as flaw
use Rattle.hextile_codec.specs.declared.stage.Stage.{Stage}
use Rattle.hextile_codec.specs.declared.stage.Stage.TheVariants.{Mask, RawPixels, Head, Subrects, Failed}

-- How far a reader of a rectangle has come: the number of the tile that is read, the colours carried to it, what the
-- next bytes are, and those of them that have come.
pub record Progress : Type 0 where
  pub format : PixelFormat
  pub width : ℕ
  pub height : ℕ
  pub tile : ℕ
  pub carried : Carried
  pub stage : Stage
  pub begun : List ℕ

-- What was read so far of one tile: the pixels of a Raw one, or the background and subrectangles of another.
pub record Part : Type 0 where
  pub pixels : List ℕ
  pub drawing : Drawing

-- What was read so far: the tiles that are whole, and the part of the next one.
pub record Sofar : Type 0 where
  pub tiles : List Tile
  pub part : Part

-- Nothing of a tile was read.
abbrev pub blank : Part
blank = record { pixels = []; drawing = record { background = 0; subrects = [] } }

-- No tile is whole.
abbrev pub nothing_read : Part → Sofar
nothing_read part = record { tiles = []; part = part }

-- The fault that one in the code stands for.
abbrev pub fault_for : Flaw → Fault
fault_for flaw.NoBackground = NoBackground
fault_for flaw.NoForeground = NoForeground
fault_for flaw.SubrectOutside = SubrectOutside

-- What the rest of a tile of w by h is read as, over what was read of it so far.
abbrev pub tile_rest : PixelFormat → ℕ → ℕ → Carried → Stage → Part → Reading (Tile × Carried)
tile_rest format w h carried Mask part = tile format carried w h
tile_rest format w h carried (RawPixels count) part =
    times (w * h - count) (pixel format) >>= λ more. Done (Pixels (part.pixels ++ more), carried)
tile_rest format w h carried (Head mask) part = drawn_tile format mask carried w h
tile_rest format w h carried (Subrects coloured left) part =
    times left (hextile_subrect format coloured (unwrap_or carried.foreground 0) w h) >>= λ more.
    Done (Drawn (record { background = part.drawing.background; subrects = part.drawing.subrects ++ more }), carried)
tile_rest format w h carried (Failed flaw) part = Faulty (fault_for flaw)

-- The tiles after tile number k, once that is read.
abbrev pub others_behind : PixelFormat → ℕ → ℕ → ℕ → List Tile → Tile × Carried → Reading (List Tile)
others_behind format w h k tiles first =
    tiles_from format w h first.1 (k + 1) (tile_count w h - (k + 1)) >>= λ others. Done (tiles ++ first.0 ∷ others)

-- What the next bytes are read as, over what was read so far. After the last tile there is nothing more to read.
abbrev pub next_form : PixelFormat → ℕ → ℕ → ℕ → Carried → Stage → Sofar → Reading (List Tile)
next_form format w h k carried stage sofar =
    if nat_lt k (tile_count w h)
    then (tile_rest format (tile_rect w h k).w (tile_rect w h k).h carried stage sofar.part >>= others_behind format w h k sofar.tiles)
    else Done sofar.tiles

-- How reading goes on.
abbrev pub ahead : Progress → Sofar → Reading (List Tile)
ahead p sofar = after (next_form p.format p.width p.height p.tile p.carried p.stage sofar) p.begun

-- An area of at most 16 by 16 on a canvas of w by h.
pub record IsTile (area : Rect) (w h : ℕ) : Type 0 where
  pub wide : (0 < area.w) × (area.w ≤ 16)
  pub high : (0 < area.h) × (area.h ≤ 16)
  pub within : IsWithin area w h
  pub small : (area.x < 65536) × (area.y < 65536)

-- A canvas shows, in a tile at an area, what it keeps of what was read of it so far. Before the first pixel, and after
-- a fault, nothing is said of it.
abbrev pub IsDrawn : (keep : ℕ → ℕ) → Rect → Stage → Canvas → Part → Type 0
IsDrawn keep area Mask canvas part = Unit {0}
IsDrawn keep area (RawPixels count) canvas part =
    (length part.pixels ≡ count)
    × ((x y : ℕ) → x < area.w → y < area.h → y * area.w + x < count → part_of area canvas x y ≡ keep (value_at area.w part.pixels x y))
IsDrawn keep area (Head mask) canvas part = Unit {0}
IsDrawn keep area (Subrects coloured left) canvas part = LooksLike area.w area.h (part_of area canvas) (kept keep (drawn part.drawing))
IsDrawn keep area (Failed flaw) canvas part = Unit {0}

-- A canvas shows what it keeps of the tiles that are whole, and of what was read of the next one.
pub record Stands (keep : ℕ → ℕ) (p : Progress) (canvas : Canvas) (sofar : Sofar) : Type 0 where
  pub count : length sofar.tiles ≡ p.tile
  pub before : (x y : ℕ) → x < p.width → y < p.height → y / 16 * tiles_across p.width + x / 16 < p.tile → canvas x y ≡ keep (tiled p.width p.height sofar.tiles x y)
  pub part : IsDrawn keep (tile_rect p.width p.height p.tile) p.stage canvas sofar.part

-- However that was drawn, another byte is wanted.
abbrev pub IsWanting : Progress → Type 0
IsWanting p = (sofar : Sofar) → wants_more (ahead p sofar) ≡ true

-- Readers of rectangles of one size and format.
pub record IsSameSize (old new : Progress) : Type 0 where
  pub format : new.format ≡ old.format
  pub width : new.width ≡ old.width
  pub height : new.height ≡ old.height

-- ---- in one tile

-- The bytes of a stage lead to a later one, and what they say was drawn.
pub record Led (keep : ℕ → ℕ) (format : PixelFormat) (area : Rect) (carried later : Carried) (stage next : Stage) (bytes : List ℕ) (now : Canvas) (part : Part) : Type 0 where
  pub grown : Part
  pub goes : Goes (tile_rest format area.w area.h carried stage part) bytes (tile_rest format area.w area.h later next grown)
  pub shows : IsDrawn keep area next now grown

-- That, wherever the canvas before showed what was read of the tile so far.
abbrev pub Leads : (keep : ℕ → ℕ) → PixelFormat → Rect → Carried → Carried → Stage → Stage → List ℕ → Canvas → Canvas → Part → Type 0
Leads keep format area carried later stage next bytes before now part = IsDrawn keep area stage before part → Led keep format area carried later stage next bytes now part

-- Outside an area nothing was drawn.
abbrev pub Keeps : Rect → ℕ → ℕ → Canvas → Canvas → Type 0
Keeps area w h old new = (x y : ℕ) → x < w → y < h → holds area x y ≡ false → new x y ≡ old x y

-- A canvas of w by h was drawn on in an area alone, and has its size still.
pub record DrawsIn (area : Rect) (w h : ℕ) (old : Canvas) (w_new h_new : ℕ) (new : Canvas) : Type 0 where
  pub width : w_new ≡ w
  pub height : h_new ≡ h
  pub keeps : Keeps area w h old new

-- A colour that the bytes give, or the carried one.
abbrev pub colour_in : PixelFormat → Bool → Option ℕ → List ℕ → Option ℕ
colour_in format given carried bytes = if given then Some (pixel_of format (take (pixel_len format) bytes)) else carried

-- How many bytes a colour has that may be left off.
abbrev pub colour_len : PixelFormat → Bool → ℕ
colour_len format given = if given then pixel_len format else 0

-- How many bytes tell what the mask announces: two colours and the number of subrectangles.
abbrev pub head_len : PixelFormat → ℕ → ℕ
head_len format mask =
    colour_len format (has_bit mask 1) + colour_len format (has_bit mask 2) + (if has_bit mask 3 then 1 else 0)

-- How many bytes are looked at together.
abbrev pub needed : PixelFormat → Stage → ℕ
needed format Mask = 1
needed format (RawPixels count) = pixel_len format
needed format (Head mask) = head_len format mask
needed format (Subrects coloured left) = colour_len format coloured + 2
needed format (Failed flaw) = 1

-- A fault was met.
abbrev pub is_failed : Stage → Bool
is_failed Mask = false
is_failed (RawPixels count) = false
is_failed (Head mask) = false
is_failed (Subrects coloured left) = false
is_failed (Failed flaw) = true

-- Whether another byte is wanted.
abbrev pub is_wanting : Progress → Bool
is_wanting p = nat_lt p.tile (tile_count p.width p.height) && not (is_failed p.stage)

-- A stage directly after a mask.
abbrev pub IsBehindMask : Stage → Type 0
IsBehindMask Mask = ⊥
IsBehindMask (RawPixels count) = count ≡ 0
IsBehindMask (Head mask) = Unit {0}
IsBehindMask (Subrects coloured left) = ⊥
IsBehindMask (Failed flaw) = Unit {0}

-- Where reading in a tile at an area leads: it is faulty, whole, or wants another byte.
abbrev pub IsLater : PixelFormat → Rect → Stage → Type 0
IsLater format area Mask = Unit {0}
IsLater format area (RawPixels count) = count ≤ area.w * area.h
IsLater format area (Head mask) = 0 < head_len format mask
IsLater format area (Subrects coloured left) = Unit {0}
IsLater format area (Failed flaw) = Unit {0}

-- What was drawn of a tile at an area leads over these bytes from a stage, with these colours, to a later one.
pub record DrawsTo (keep : ℕ → ℕ) (format : PixelFormat) (area : Rect) (carried : Colours) (stage : Stage) (bytes : List ℕ) (before now : Canvas) (drawn : outcome.Drawn) : Type 0 where
  pub leads : (part : Part) → Leads keep format area (carried_by carried) (carried_by drawn.carried) stage drawn.stage bytes before now part
  pub later : IsLater format area drawn.stage

-- A tile of w by h is whole at a stage.
abbrev pub is_whole : ℕ → ℕ → Stage → Bool
is_whole w h Mask = false
is_whole w h (RawPixels count) = count == w * h
is_whole w h (Head mask) = false
is_whole w h (Subrects coloured left) = left == 0
is_whole w h (Failed flaw) = false

-- A stage in a tile at an area is one at which another byte is wanted, or the tile is faulty.
abbrev pub IsReady : PixelFormat → Rect → Stage → Type 0
IsReady format area Mask = Unit {0}
IsReady format area (RawPixels count) = count < area.w * area.h
IsReady format area (Head mask) = 0 < head_len format mask
IsReady format area (Subrects coloured left) = 0 < left
IsReady format area (Failed flaw) = Unit {0}

-- Where a reader stands: the tile that is read lies at an area. After the last tile no byte has come.
pub record IsPlace (format : PixelFormat) (w h tiles k : ℕ) (area : Rect) (stage : Stage) (filled : ℕ) : Type 0 where
  pub wide : w ≤ 65535
  pub high : h ≤ 65535
  pub count : tiles ≡ tile_count w h
  pub within : k ≤ tiles
  pub lies : k < tiles → area ≡ tile_rect w h k
  pub ready : k < tiles → IsReady format area stage
  pub over : k ≡ tiles → stage ≡ Mask
  pub room : filled < needed format stage

-- The pixel values in some bytes, this many of them.
abbrev pub pixels_in : PixelFormat → ℕ → List ℕ → List ℕ
pixels_in format zero bytes = []
pixels_in format (suc n) bytes = pixel_of format (take (pixel_len format) bytes) ∷ pixels_in format n (drop (pixel_len format) bytes)

-- A subrectangle's place in its tile, from its two bytes.
abbrev pub place_in : ℕ → ℕ → Rect
place_in position size = record { x = position / 16; y = position % 16; w = size / 16 + 1; h = size % 16 + 1 }

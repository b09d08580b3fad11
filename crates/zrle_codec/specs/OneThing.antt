-- What is read of ZRLE is one thing alone: the bytes of a tile, of a rectangle's tiles and of parts one behind another,
-- and the data of rectangles, have no two readings. `src/law` has a law for each of these.
use Rattle.std.specs.Prelude.{◌≡◌, ℕ, List, [], ◌∷◌, ◌++◌, map, Option, Some}
use Rattle.pixel_format.specs.PixelFormat.{PixelFormat, tint, IsAccepted}
use Rattle.raster.specs.declared.rect.Rect.{Rect}
use Rattle.raster.specs.Screen.{Canvas, LooksLike, kept, part_of, value_at}
use Rattle.zrle_codec.specs.Tiles.{SpellsTile}
use Rattle.zrle_codec.specs.Areas.{SpellsTiles, IsZrle, area_values, zrle_tile_count}
use Rattle.zrle_codec.specs.Reading.{ReadsZrle, inflated, zlib_head}

-- Bytes that begin in two ways begin in one: both beginnings are the same, and so is what stands behind them.
pub record BeginAlike (first other rest other_rest : List ℕ) : Type 0 where
  pub beginning : first ≡ other
  pub behind : rest ≡ other_rest

-- A tile ends at one place, and draws one thing alone.
abbrev pub TilesDrawOneThing : Type 0
TilesDrawOneThing =
    (format : PixelFormat) (w h : ℕ) (first other rest other_rest values other_values : List ℕ) → first ++ rest ≡ other ++ other_rest
    → SpellsTile format w h values first → SpellsTile format w h other_values other → BeginAlike first other rest other_rest × (values ≡ other_values)

-- So do the tiles of a rectangle, one behind another.
abbrev pub RectanglesDrawOneThing : Type 0
RectanglesDrawOneThing =
    (format : PixelFormat) (w h : ℕ) (first other rest other_rest : List ℕ) (canvas other_canvas : Canvas) → first ++ rest ≡ other ++ other_rest
    → SpellsTiles format w h canvas (zrle_tile_count w h) first → SpellsTiles format w h other_canvas (zrle_tile_count w h) other
    → BeginAlike first other rest other_rest × LooksLike w h canvas other_canvas

-- A part shows one thing alone.
abbrev pub PartsShowOneThing : Type 0
PartsShowOneThing = (format : PixelFormat) (w h : ℕ) (part : List ℕ) (canvas other : Canvas) → IsZrle format w h canvas part → IsZrle format w h other part → LooksLike w h canvas other

-- The pixel values of an area, as they are received, are those of its colours.
abbrev pub AreasShowTheirColours : Type 0
AreasShowTheirColours = (format : PixelFormat) (width : ℕ) (colours : List ℕ) (area : Rect) → IsAccepted format → area_values format width colours area ≡ kept (tint format) (part_of area (value_at width colours))

-- ---- parts one behind another

-- An area, and the pixel values that it shows.
pub record Shown : Type 0 where
  pub w : ℕ
  pub h : ℕ
  pub canvas : Canvas

-- Its width and height.
abbrev pub size_of : Shown → ℕ × ℕ
size_of area = (area.w, area.h)

-- The parts of areas, one behind another.
pub data AreParts : (format : PixelFormat) (areas : List Shown) (parts : List ℕ) → Type 0 where
  none : (format : PixelFormat) → AreParts format [] []
  part : (format : PixelFormat) (area : Shown) (areas : List Shown) (first parts : List ℕ) → IsZrle format area.w area.h area.canvas first → AreParts format areas parts → AreParts format (area ∷ areas) (first ++ parts)

-- As many areas as others, each of which looks like the other one in its place.
abbrev pub LookAlike : List Shown → List Shown → Type 0
LookAlike [] [] = Unit {0}
LookAlike [] (other ∷ others) = ⊥
LookAlike (area ∷ areas) [] = ⊥
LookAlike (area ∷ areas) (other ∷ others) = LooksLike area.w area.h area.canvas other.canvas × LookAlike areas others

-- Parts one behind another show one list of areas of these sizes.
abbrev pub PartsShowAreasInOrder : Type 0
PartsShowAreasInOrder =
    (format : PixelFormat) (areas others : List Shown) (parts : List ℕ) → map size_of areas ≡ map size_of others → AreParts format areas parts → AreParts format others parts → LookAlike areas others

-- ---- rectangles of a connection

-- In one state the data of a rectangle bring one thing alone, and leave one state.
abbrev pub DataBringOneThing : Type 0
DataBringOneThing =
    (format : PixelFormat) (w h : ℕ) (before after other_after : Option (List ℕ)) (zlib_data : List ℕ) (canvas other : Canvas)
    → ReadsZrle format w h before zlib_data canvas after → ReadsZrle format w h before zlib_data other other_after → LooksLike w h canvas other × (after ≡ other_after)

-- In each state a part brings what it shows. Before the first rectangle it stands behind the stream's first two bytes.
abbrev pub PartsAreRead : Type 0
PartsAreRead =
    (format : PixelFormat) (w h : ℕ) (before : Option (List ℕ)) (part : List ℕ) (canvas : Canvas) (is : IsZrle format w h canvas part)
    → ReadsZrle format w h before (zlib_head before ++ part) canvas (Some (inflated before ++ is.bytes))

-- So the part of an area of a screen brings the pixel values of its colours.
abbrev pub AreasAreRead : Type 0
AreasAreRead =
    (format : PixelFormat) (width : ℕ) (colours : List ℕ) (area : Rect) (before : Option (List ℕ)) (part : List ℕ) → IsAccepted format → (is : IsZrle format area.w area.h (area_values format width colours area) part)
    → ReadsZrle format area.w area.h before (zlib_head before ++ part) (kept (tint format) (part_of area (value_at width colours))) (Some (inflated before ++ is.bytes))

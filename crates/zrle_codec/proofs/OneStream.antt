-- Parts, alone and one behind another, and the data of rectangles inflate to one thing alone, and so show one thing
-- alone.
use Rattle.std.proofs.Common.{◌≡◌, ℕ, List, [], ◌∷◌, ◌++◌, ◌∙◌, map, refl, sym, ap, subst, append_assoc}
use Rattle.std.specs.Prelude.{Some}
use mathlib.Core.Path.{fun_ext}
use Rattle.std.proofs.lemmas.List.{append_cancel_left}
use Rattle.pixel_format.specs.PixelFormat.{PixelFormat}
use Rattle.raster.specs.Screen.{Canvas, LooksLike, part_of, value_at}
use Rattle.deflate.specs.Bits.{bits_of}
use Rattle.deflate.specs.Inflates.{Inflates}
use Rattle.deflate.specs.Parts.{IsPart}
use Rattle.zrle_codec.specs.Areas.{SpellsTiles, area_values, zrle_tile_count}
use Rattle.zrle_codec.specs.Reading.{ReadsZrle, inflated, zlib_head}
use Rattle.zrle_codec.specs.OneThing.{Shown, AreParts, size_of, LookAlike, PartsShowOneThing, AreasShowTheirColours, PartsShowAreasInOrder, DataBringOneThing, PartsAreRead, AreasAreRead}
use Rattle.zrle_codec.specs.OneThing.AreParts.{none as no_parts, part as one_part}
use Rattle.zrle_codec.proofs.OneRectangle.{one_rectangle}
use Rattle.zrle_codec.proofs.ReadBack.{read_back}

-- ---- what the laws of DEFLATE say

abbrev pub OneSource : Type 0
OneSource = (part a b : List ℕ) → IsPart part a → IsPart part b → a ≡ b

abbrev pub OneThing : Type 0
OneThing = (before blocks a b : List ℕ) → Inflates before blocks a → Inflates before blocks b → a ≡ b

abbrev pub Concatenate : Type 0
Concatenate = (first second a b : List ℕ) → IsPart first a → IsPart second b → IsPart (first ++ second) (a ++ b)

-- ---- colours

pub areas_show_colours : AreasShowTheirColours
areas_show_colours format width colours area accepted = fun_ext (λ x. fun_ext (λ y. read_back format (part_of area (value_at width colours) x y) accepted))

-- ---- one part

-- the same tiles
same_tiles : (format : PixelFormat) (w h : ℕ) (a b : List ℕ) (canvas known : Canvas) → a ≡ b → SpellsTiles format w h canvas (zrle_tile_count w h) a → SpellsTiles format w h known (zrle_tile_count w h) b
    → LooksLike w h canvas known
same_tiles format w h a b canvas known same one two = (one_rectangle format w h a b [] [] canvas known (ap (λ t. t ++ []) same) one two).1

pub parts_show : OneSource → PartsShowOneThing
parts_show source format w h part canvas known one two = same_tiles format w h one.bytes two.bytes canvas known (source part one.bytes two.bytes one.inflates two.inflates) one.spells two.spells

-- ---- parts one behind another

-- the tiles of areas, one area behind another
data SpellsAreas : (format : PixelFormat) (areas : List Shown) (bytes : List ℕ) → Type 0 where
  no_area : (format : PixelFormat) → SpellsAreas format [] []
  then_areas : (format : PixelFormat) (area : Shown) (areas : List Shown) (first bytes : List ℕ) → SpellsTiles format area.w area.h area.canvas (zrle_tile_count area.w area.h) first → SpellsAreas format areas bytes
      → SpellsAreas format (area ∷ areas) (first ++ bytes)

record Inflated (format : PixelFormat) (areas : List Shown) (parts : List ℕ) : Type 0 where
  bytes : List ℕ
  spells : SpellsAreas format areas bytes
  inflates : IsPart parts bytes

inflate_all : {format : PixelFormat} {areas : List Shown} {parts : List ℕ} → IsPart [] [] → Concatenate → AreParts format areas parts → Inflated format areas parts
inflate_all nothing then_part (no_parts format) = record { bytes = []; spells = no_area format; inflates = nothing }
inflate_all nothing then_part (one_part format area areas first parts is rest) =
    let others = inflate_all nothing then_part rest in
    record {
      bytes = is.bytes ++ others.bytes;
      spells = then_areas format area areas is.bytes others.bytes is.spells others.spells;
      inflates = then_part first parts is.bytes others.bytes is.inflates others.inflates;
    }

areas_alike : {format : PixelFormat} {areas : List Shown} {a : List ℕ} → (others : List Shown) (b r q : List ℕ) → SpellsAreas format areas a → SpellsAreas format others b → map size_of areas ≡ map size_of others → a ++ r ≡ b ++ q
    → LookAlike areas others
areas_alike others b r q (no_area format) (no_area format') sizes same = tt
areas_alike others b r q (no_area format) (then_areas format' other others' first' bytes' spells' more') sizes same = absurd (cc)
areas_alike others b r q (then_areas format area areas first bytes spells more) (no_area format') sizes same = absurd (cc)
areas_alike others b r q (then_areas format area areas first bytes spells more) (then_areas format' other others' first' bytes' spells' more') sizes same =
    let size : size_of area ≡ size_of other = cc in
    let behind : map size_of areas ≡ map size_of others' = cc in
    let wide : other.w ≡ area.w = sym (ap (λ s. s.0) size) in
    let high : other.h ≡ area.h = sym (ap (λ s. s.1) size) in
    let there : SpellsTiles format area.w area.h other.canvas (zrle_tile_count area.w area.h) first' =
    subst (λ h. SpellsTiles format area.w h other.canvas (zrle_tile_count area.w h) first') high
    (subst (λ w. SpellsTiles format w other.h other.canvas (zrle_tile_count w other.h) first') wide spells') in
    let this = one_rectangle format area.w area.h first first' (bytes ++ r) (bytes' ++ q) area.canvas other.canvas (sym (append_assoc first bytes r) ∙ (same ∙ append_assoc first' bytes' q)) spells there in
    (this.1, areas_alike others' bytes' r q more more' behind this.0.behind)

pub areas_show : OneSource → IsPart [] [] → Concatenate → PartsShowAreasInOrder
areas_show source nothing then_part format areas others parts sizes one two =
    let a = inflate_all nothing then_part one in
    let b = inflate_all nothing then_part two in
    areas_alike others b.bytes [] [] a.spells b.spells sizes (ap (λ t. t ++ []) (source parts a.bytes b.bytes a.inflates b.inflates))

-- ---- rectangles of a connection

pub data_bring : OneThing → DataBringOneThing
data_bring thing format w h before after others zlib_data canvas known one two =
    let was : List ℕ = inflated before in
    let blocks : two.blocks ≡ one.blocks = append_cancel_left (zlib_head before) two.blocks one.blocks (sym two.begins ∙ one.begins) in
    let there : Inflates was (bits_of one.blocks) (was ++ two.tiles) = subst (λ t. Inflates was (bits_of t) (was ++ two.tiles)) blocks two.inflates in
    let now : was ++ one.tiles ≡ was ++ two.tiles = thing was (bits_of one.blocks) (was ++ one.tiles) (was ++ two.tiles) one.inflates there in
    let tiles : one.tiles ≡ two.tiles = append_cancel_left was one.tiles two.tiles now in
    (same_tiles format w h one.tiles two.tiles canvas known tiles one.brings two.brings, one.leaves ∙ (ap (λ t. Some t) now ∙ sym two.leaves))

pub parts_are_read : PartsAreRead
parts_are_read format w h before part canvas is = record {
  blocks = part;
  tiles = is.bytes;
  begins = refl;
  inflates = is.inflates (inflated before);
  brings = is.spells;
  leaves = refl;
}

pub areas_are_read : AreasAreRead
areas_are_read format width colours area before part accepted is =
    subst (λ canvas. ReadsZrle format area.w area.h before (zlib_head before ++ part) canvas (Some (inflated before ++ is.bytes))) (areas_show_colours format width colours area accepted)
    (parts_are_read format area.w area.h before part (area_values format width colours area) is)

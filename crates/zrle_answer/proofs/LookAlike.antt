-- An answer of one screen is one of each that looks the same in its rectangles.
use Rattle.std.proofs.Common.{◌≡◌, ℕ, ◌+◌, ◌-◌, ◌<◌, Bool, true, false, List, [], ◌∷◌, Option, Some, None, refl, sym, ap, subst, arith}
use Rattle.std.specs.Prelude.{min, ◌||◌}
use Rattle.pixel_format.specs.PixelFormat.{PixelFormat, tint}
use Rattle.raster.specs.declared.rect.Rect.{Rect}
use Rattle.raster.specs.Screen.{Canvas, LooksLike, holds, part_of, values_of}
use Rattle.raster.proofs.Places.{Has, holds_has}
use Rattle.raster.proofs.Spellings.{Each}
use Rattle.tiles.specs.Brings.{some_holds}
use Rattle.update_encoder.specs.Answer.{colours_in, spelled}
use Rattle.update_encoder.specs.Style.{Style}
use Rattle.update_encoder.proofs.CutLaws.{all_same, colours_same}
use Rattle.zrle_codec.specs.Tiles.{SpellsTile}
use Rattle.zrle_codec.specs.Areas.{IsZrle, SpellsTiles, zrle_tile_rect}
use Rattle.zrle_codec.specs.Areas.SpellsTiles.{none as no_tile, tile}
use Rattle.zrle_answer.specs.Rectangle.{ZlibStream}
use Rattle.zrle_answer.specs.Answer.{ZrleStyle, IsSpelled, AreSpelled, shown_in}
use Rattle.zrle_answer.specs.Answer.IsSpelled.{without, compressed}
use Rattle.zrle_answer.specs.Answer.AreSpelled.{none, one_more}
use Rattle.zrle_answer.specs.Followed.{AnswersShowWhatLooksAlike}
use Rattle.zrle_answer.proofs.OneReading.{values_alike}

-- ---- in ZRLE

in_tile : (a w i : ℕ) → i < min 64 (w - a) → a + i < w
in_tile a w i lt = omega (arith, lt)

tile_alike : (w h t : ℕ) (canvas known : Canvas) → LooksLike w h canvas known
    → values_of (zrle_tile_rect w h t).w (zrle_tile_rect w h t).h (part_of (zrle_tile_rect w h t) canvas) ≡ values_of (zrle_tile_rect w h t).w (zrle_tile_rect w h t).h (part_of (zrle_tile_rect w h t) known)
tile_alike w h t canvas known same =
    let r : Rect = zrle_tile_rect w h t in
    values_alike r.w r.h (part_of r canvas) (part_of r known) (λ i j li lj. same (r.x + i) (r.y + j) (in_tile r.x w i li) (in_tile r.y h j lj))

tiles_alike : {format : PixelFormat} {w h : ℕ} {canvas : Canvas} {count : ℕ} {bytes : List ℕ} → (known : Canvas) → LooksLike w h canvas known → SpellsTiles format w h canvas count bytes → SpellsTiles format w h known count bytes
tiles_alike known same (no_tile format w h canvas) = no_tile format w h known
tiles_alike known same (tile format w h canvas count bytes more before last) =
    tile format w h known count bytes more (tiles_alike known same before)
    (subst (λ values. SpellsTile format (zrle_tile_rect w h count).w (zrle_tile_rect w h count).h values more) (tile_alike w h count canvas known same) last)

-- ---- one rectangle

abbrev AreSameIn : Canvas → Canvas → Rect → Type 0
AreSameIn a b r = (x y : ℕ) → Has r x y → a x y ≡ b x y

abbrev AreSameInOne : Canvas → Canvas → Option Rect → Type 0
AreSameInOne a b None = Unit {0}
AreSameInOne a b (Some r) = AreSameIn a b r

same_colours : (a b : Canvas) (r : Rect) → AreSameIn a b r → colours_in a r ≡ colours_in b r
same_colours a b r same = colours_same a b r (λ x y left right top bottom. same x y (record { left = left; right = right; top = top; bottom = bottom }))

shown_alike : (format : PixelFormat) (a b : Canvas) (r : Rect) → AreSameIn a b r → LooksLike r.w r.h (shown_in format a r) (shown_in format b r)
shown_alike format a b r same x y lx ly = ap (tint format) (same (r.x + x) (r.y + y) (record { left = omega arith; right = omega (arith, lx); top = omega arith; bottom = omega (arith, ly) }))

abbrev first_of : List (List ℕ) → List ℕ
first_of [] = []
first_of (x ∷ xs) = x

spelled_alike : (style : Style) (a b : Canvas) (may_copy : Bool) (above : Option Rect) (r : Rect) → AreSameInOne a b above → AreSameIn a b r → spelled style a may_copy above r ≡ spelled style b may_copy above r
spelled_alike style a b may_copy None r k same = ap first_of (all_same style a b may_copy None (r ∷ []) tt (same_colours a b r same, tt))
spelled_alike style a b may_copy (Some above) r k same = ap first_of (all_same style a b may_copy (Some above) (r ∷ []) (same_colours a b above k) (same_colours a b r same, tt))

one_alike : {style : ZrleStyle} {canvas : Canvas} {may_copy : Bool} {above : Option Rect} {r : Rect} {before : ZlibStream} {bytes : List ℕ} {after : ZlibStream} → (known : Canvas) → AreSameInOne canvas known above → AreSameIn canvas known r
    → IsSpelled style canvas may_copy above r before bytes after → IsSpelled style known may_copy above r before bytes after
one_alike known k same (without style canvas may_copy above r stream) =
    subst (λ bs. IsSpelled style known may_copy above r stream bs stream) (sym (spelled_alike style.plain canvas known may_copy above r k same)) (without style known may_copy above r stream)
one_alike known k same (compressed style canvas may_copy above r before part may is few) =
    let shown : IsZrle style.plain.format r.w r.h (shown_in style.plain.format known r) part = record {
      bytes = is.bytes;
      spells = tiles_alike (shown_in style.plain.format known r) (shown_alike style.plain.format canvas known r same) is.spells;
      inflates = is.inflates;
    } in
    compressed style known may_copy above r before part may shown few

all_alike : {style : ZrleStyle} {canvas : Canvas} {may_copy : Bool} {above : Option Rect} {rs : List Rect} {before : ZlibStream} {bytes : List ℕ} {after : ZlibStream} → (known : Canvas) → AreSameInOne canvas known above → Each (AreSameIn canvas known) rs
    → AreSpelled style canvas may_copy above rs before bytes after → AreSpelled style known may_copy above rs before bytes after
all_alike known k each (none style canvas may_copy above stream) = none style known may_copy above stream
all_alike known k each (one_more style canvas may_copy above r rs before between after first others spells more) =
    one_more style known may_copy above r rs before between after first others (one_alike known k each.0 spells) (all_alike known each.0 each.1 more)

-- ---- an answer

or_left : (a b : Bool) → a ≡ true → (a || b) ≡ true
or_left true b e = refl
or_left false b e = absurd cc

or_right : (a b : Bool) → b ≡ true → (a || b) ≡ true
or_right true b e = refl
or_right false b e = e

each_alike : (a b : Canvas) (rs : List Rect) → ((x y : ℕ) → some_holds rs x y ≡ true → a x y ≡ b x y) → Each (AreSameIn a b) rs
each_alike a b [] same = tt
each_alike a b (r ∷ rs) same =
    (λ x y p. same x y (or_left (holds r x y) (some_holds rs x y) (holds_has r x y p)), each_alike a b rs (λ x y e. same x y (or_right (holds r x y) (some_holds rs x y) e)))

pub answers_show_what_looks_alike : AnswersShowWhatLooksAlike
answers_show_what_looks_alike style canvas known copies sent rs before after bytes same is =
    record { others = is.others; are = is.are; spelled_so = all_alike known tt (each_alike canvas known rs same) is.spelled_so }

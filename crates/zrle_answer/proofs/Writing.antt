-- A rectangle whose zlib data are a part of an area spells that area, in each state of the stream.
use Rattle.std.proofs.Common.{◌≡◌, ℕ, ◌+◌, ◌^◌, ◌<◌, ◌≤◌, Bool, true, false, List, [], ◌++◌, ◌∙◌, length, Option, Some, None, refl, sym, ap, subst, arith, length-append}
use Rattle.pixel_format.specs.PixelFormat.{PixelFormat, IsAccepted}
use Rattle.raster.specs.declared.rect.Rect.{Rect}
use Rattle.raster.specs.Screen.{Canvas, value_at}
use Rattle.zrle_codec.specs.Areas.{AppendsZrle, IsZrle, area_values}
use Rattle.zrle_codec.specs.OneThing.{AreasShowTheirColours}
use Rattle.zrle_codec.specs.Reading.{inflated, zlib_head}
use Rattle.shared_parts.specs.Parts.{ShowsArea}
use Rattle.zrle_answer.specs.Rectangle.{ZlibStream, zrle_rectangle_bytes}
use Rattle.zrle_answer.specs.Answer.{ZrleStyle, IsSpelled, shown_in}
use Rattle.zrle_answer.specs.Answer.IsSpelled.{compressed}
use Rattle.zrle_answer.specs.Written.{AppendsRectangle, has_begun, head_unless}

-- What stands in front of a part is the stream's head, in each such state.
head_is : (before : ZlibStream) (begun : Bool) → has_begun before ≡ begun → zlib_head before ≡ head_unless begun
head_is None true e = absurd cc
head_is None false e = refl
head_is (Some bytes) true e = refl
head_is (Some bytes) false e = absurd cc

head_few : (begun : Bool) → length (head_unless begun) ≤ 2
head_few true = omega arith
head_few false = omega arith

spells_part : (screen : Canvas) (r : Rect) (begun : Bool) (part : List ℕ) (style : ZrleStyle) (may_copy : Bool) (above : Option Rect) (before : ZlibStream) → IsZrle style.plain.format r.w r.h (shown_in style.plain.format screen r) part → length part ≤ 2 ^ 27
    → style.may_zrle ≡ true → has_begun before ≡ begun
    → (after : ZlibStream) × IsSpelled style screen may_copy above r before (zrle_rectangle_bytes r (head_unless begun ++ part)) after × (has_begun after ≡ true)
spells_part screen r begun part style may_copy above before is few may e =
    let head : zlib_head before ≡ head_unless begun = head_is before begun e in
    let short : length (zlib_head before ++ part) < 2 ^ 32 = omega (arith, length-append (zlib_head before) part, ap length head, head_few begun, few) in
    let after : ZlibStream = Some (inflated before ++ is.bytes) in (
      after,
      subst (λ t. IsSpelled style screen may_copy above r before (zrle_rectangle_bytes r (t ++ part)) after) head (compressed style screen may_copy above r before part may is short),
      refl,
    )

-- Behind the old bytes stands a rectangle whose data are a part that shows its area.
pub appends_shown : (format : PixelFormat) (width : ℕ) (colours : List ℕ) (r : Rect) (begun : Bool) (old new part : List ℕ) → AreasShowTheirColours → IsAccepted format
    → ShowsArea format width colours r part → new ≡ old ++ zrle_rectangle_bytes r (head_unless begun ++ part) → AppendsRectangle format (value_at width colours) r begun old new
appends_shown format width colours r begun old new part show ok shows are =
    let screen : Canvas = value_at width colours in
    let shown : IsZrle format r.w r.h (shown_in format screen r) part = subst (λ canvas. IsZrle format r.w r.h canvas part) (show format width colours r ok) shows.is in
    record {
      bytes = zrle_rectangle_bytes r (head_unless begun ++ part);
      appended = are;
      spells = λ style may_copy above before same may e.
          spells_part screen r begun part style may_copy above before (subst (λ f. IsZrle f r.w r.h (shown_in f screen r) part) (sym same) shown) shows.few may e;
    }

-- What was appended to nothing is such a part.
pub shows_area : (format : PixelFormat) (width : ℕ) (colours : List ℕ) (r : Rect) (none part : List ℕ) → none ≡ []
    → AppendsZrle format r.w r.h (area_values format width colours r) none part → length part ≤ length none + 2 ^ 27 → ShowsArea format width colours r part
shows_area format width colours r none part empty appends few =
    let same : appends.part ≡ part = sym (appends.appended ∙ ap (λ t. t ++ appends.part) empty) in
    record {
      is = subst (IsZrle format r.w r.h (area_values format width colours r)) same appends.is;
      few = omega (arith, few, ap length empty);
    }

-- What is read of an update lies on the screen.
use Rattle.std.proofs.Common.{◌≡◌, ℕ, zero, suc, Bool, true, false, cond, List, [], ◌∷◌, refl, subst, arith}
use Rattle.std.specs.Prelude.{not, ◌==◌}
use Rattle.std.specs.List.{All}
use Rattle.std.proofs.lemmas.Bool.Decides.{nat_tests}
use Rattle.pixel_format.specs.PixelFormat.{PixelFormat}
use Rattle.byte_reading.specs.Reading.{Reading, Done, Faulty, ◌>>=◌, u16, u32, unless, Spells}
use Rattle.fault.specs.declared.kinds.Fault.TheVariants.{CopyOutside, UnknownEncoding}
use Rattle.raster.specs.declared.rect.Rect.{Rect}
use Rattle.raster.specs.declared.encoding.Encoding.{Encoding}
use Rattle.raster.specs.declared.encoding.Encoding.TheVariants.{Raw, Rre, Hextile}
use Rattle.raster.specs.Encoding.{rect, pixels}
use Rattle.raster.specs.Screen.{IsWithin, is_within}
use Rattle.raster.specs.Update.{Paint, Put, Copy, Resized}
use Rattle.raster.proofs.Spellings.{Each}
use Rattle.rfb_wire.specs.ClientMessage.{desktop_size}
use Rattle.rfb_wire.specs.ServerMessage.{copy_rect, data_of, is_at_corner}
use Rattle.zrle_answer.specs.Rectangle.{ZlibStream}
use Rattle.zrle_answer.specs.Reading.{ReadsRectangle, ReadsRectangles}
use Rattle.zrle_answer.specs.Reading.ReadsRectangle.{in_another, in_zrle}
use Rattle.zrle_answer.specs.Reading.ReadsRectangles.{none, one_more}
use Rattle.zrle_answer.specs.Followed.{LiesOn, PaintsLieOnTheScreen}
use Rattle.zrle_answer.proofs.OneReading.{behind, outside}
use Rattle.zrle_answer.proofs.Spelled.{both, no_fault, passed, done_with}

within : (r : Rect) (w h : ℕ) → is_within r w h ≡ true → IsWithin r w h
within r w h e = record { across = grind (arith, nat_tests); down = grind (arith, nat_tests) }

not_false : (b : Bool) → not b ≡ false → b ≡ true
not_false true e = refl
not_false false e = absurd cc

put_lies : (encoding : Encoding) (format : PixelFormat) (w h : ℕ) (area : Rect) (bs : List ℕ) (paint : Paint) → IsWithin area w h → Spells (pixels encoding format area.w area.h >>= λ values. Done (Put area values)) bs paint → LiesOn w h paint
put_lies encoding format w h area bs paint inside k =
    let s = both (pixels encoding format area.w area.h) (λ values. Done (Put area values)) bs paint k in
    subst (LiesOn w h) (done_with (Put area s.x) paint s.others s.then_spells).1 inside

copy_lies : (w h : ℕ) (area : Rect) (bs : List ℕ) (paint : Paint) → IsWithin area w h → Spells (copy_rect w h area) bs paint → LiesOn w h paint
copy_lies w h area bs paint inside k =
    let source : ℕ → ℕ → Rect = λ x y. record { x = x; y = y; w = area.w; h = area.h } in
    let judged : ℕ → ℕ → Reading Paint = λ x y. unless (not (is_within (source x y) w h)) CopyOutside (Done (Copy area x y)) in
    let s = both u16 (λ x. u16 >>= judged x) bs paint k in
    let t = both u16 (judged s.x) s.others paint s.then_spells in
    let u = passed (not (is_within (source s.x t.x) w h)) CopyOutside (Done (Copy area s.x t.x)) t.others paint t.then_spells in
    subst (LiesOn w h) (done_with (Copy area s.x t.x) paint t.others u.1).1 (inside, within (source s.x t.x) w h (not_false (is_within (source s.x t.x) w h) u.0))

data_lies : (format : PixelFormat) (w h : ℕ) (area : Rect) (is_raw is_copy is_rre is_hextile is_size : Bool) (bs : List ℕ) (paint : Paint) → IsWithin area w h
    → Spells (cond is_raw (pixels Raw format area.w area.h >>= λ values. Done (Put area values)) (cond is_copy (copy_rect w h area) (cond is_rre (pixels Rre format area.w area.h >>= λ values. Done (Put area values)) (cond is_hextile (pixels Hextile format area.w area.h >>= λ values. Done (Put area values)) (cond is_size (Done (Resized (record { width = area.w; height = area.h }))) (Faulty UnknownEncoding)))))) bs paint
    → LiesOn w h paint
data_lies format w h area true is_copy is_rre is_hextile is_size bs paint inside k = put_lies Raw format w h area bs paint inside k
data_lies format w h area false true is_rre is_hextile is_size bs paint inside k = copy_lies w h area bs paint inside k
data_lies format w h area false false true is_hextile is_size bs paint inside k = put_lies Rre format w h area bs paint inside k
data_lies format w h area false false false true is_size bs paint inside k = put_lies Hextile format w h area bs paint inside k
data_lies format w h area false false false false true bs paint inside k =
    subst (LiesOn w h) (done_with (Resized (record { width = area.w; height = area.h })) paint bs k).1 (omega (arith, inside.across), omega (arith, inside.down))
data_lies format w h area false false false false false bs paint inside k = absurd (no_fault UnknownEncoding bs paint k)

behind_lies : (format : PixelFormat) (w h : ℕ) (area : Rect) (b : Bool) (bs : List ℕ) (paint : Paint) → is_within area w h ≡ b → Spells (behind format w h area b) bs paint → LiesOn w h paint
behind_lies format w h area true bs paint e k =
    let s = both u32 (data_of format w h area) bs paint k in
    data_lies format w h area (s.x == 0) (s.x == 1) (s.x == 2) (s.x == 5) (s.x == desktop_size) s.others paint (within area w h e) s.then_spells
behind_lies format w h area false bs paint e k = absurd (outside area (is_at_corner area) bs paint k)

one_lies : {format : PixelFormat} {w h : ℕ} {before after : ZlibStream} {bytes : List ℕ} {paint : Paint} → ReadsRectangle format w h before bytes paint after → LiesOn w h paint
one_lies (in_another format w h stream bytes paint k) =
    let s = both rect (λ area. behind format w h area (is_within area w h)) bytes paint k in
    behind_lies format w h s.x (is_within s.x w h) s.others paint refl s.then_spells
one_lies (in_zrle format w h before after bytes zlib_data area canvas k inside reads) = inside

all_lie : {format : PixelFormat} {w h count : ℕ} {before after : ZlibStream} {bytes : List ℕ} {paints : List Paint} → ReadsRectangles format w h count before bytes paints after → Each (LiesOn w h) paints
all_lie (none format w h stream) = tt
all_lie (one_more format w h count before between after first others paint paints reads more) = (one_lies reads, all_lie more)

all_of_each : {A : Type 0} (P : A → Type 0) (xs : List A) → Each P xs → All P xs
all_of_each P [] each k d lt = absurd (omega arith)
all_of_each P (x ∷ xs) each zero d lt = each.0
all_of_each P (x ∷ xs) each (suc k) d lt = all_of_each P xs each.1 k d (omega arith)

pub paints_lie_on_the_screen : PaintsLieOnTheScreen
paints_lie_on_the_screen format w h before after bytes paints reads = all_of_each (LiesOn w h) paints (all_lie reads.rectangles)

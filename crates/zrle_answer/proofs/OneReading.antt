-- An update is read as one thing alone.
use Rattle.std.proofs.Common.{◌≡◌, ℕ, zero, suc, Bool, true, false, List, ◌∷◌, ◌++◌, ◌∙◌, refl, sym, ap, subst, append_assoc, arith, []}
use Rattle.std.specs.Prelude.{not, ◌==◌, if◌then◌else◌, ◌*◌, ◌/◌, ◌%◌, ◌<◌}
use Rattle.std.proofs.lemmas.Bool.{eqb-true}
use Rattle.std.proofs.lemmas.List.{append_cancel_left}
use Rattle.pixel_format.specs.PixelFormat.{PixelFormat}
use Rattle.byte_reading.specs.Reading.{Reading, Done, Faulty, ◌>>=◌, bytes, u32, unless, Spells}
use Rattle.byte_reading.proofs.ReadingLaws.{prefix_free}
use Rattle.fault.specs.declared.kinds.Fault.TheVariants.{RectOutside, UnknownEncoding}
use Rattle.raster.specs.declared.rect.Rect.{Rect}
use Rattle.raster.specs.Encoding.{rect}
use Rattle.raster.specs.Screen.{Canvas, LooksLike, is_within, values_of}
use Rattle.raster.specs.Update.{Paint, Put}
use Rattle.raster.proofs.PixelRows.{map_same}
use Rattle.raster.proofs.Values.{column_in, row_in}
use Rattle.rfb_wire.specs.ServerMessage.{data_of, fault_outside, is_at_corner, rectangle}
use Rattle.zrle_codec.specs.Reading.{ReadsZrle}
use Rattle.zrle_codec.specs.OneThing.{DataBringOneThing}
use Rattle.zrle_answer.specs.Rectangle.{ZlibStream, zrle, zrle_rectangle}
use Rattle.zrle_answer.specs.Reading.{ReadsRectangle, ReadsRectangles, ReadsUpdate, update_head}
use Rattle.zrle_answer.specs.Reading.ReadsRectangle.{in_another, in_zrle}
use Rattle.zrle_answer.specs.Reading.ReadsRectangles.{none, one_more}
use Rattle.zrle_answer.specs.Followed.{UpdatesEndAtOnePlace}
use Rattle.zrle_answer.proofs.Spelled.{both, no_fault, ends_in_fault, passed}

-- ---- the forms, taken apart

abbrev pub behind : PixelFormat → ℕ → ℕ → Rect → Bool → Reading Paint
behind format w h area within =
    if within then (u32 >>= λ encoding. data_of format w h area encoding)
    else (if is_at_corner area then (u32 >>= λ encoding. Faulty (fault_outside encoding)) else Faulty RectOutside)

abbrev pub with_data : Rect → ℕ → Reading (Rect × List ℕ)
with_data area len = bytes len >>= λ zlib_data. Done (area, zlib_data)

abbrev pub numbered : Rect → ℕ → Reading (Rect × List ℕ)
numbered area encoding = unless (not (encoding == zrle)) UnknownEncoding (u32 >>= with_data area)

not_false : (b : Bool) → not b ≡ false → b ≡ true
not_false true e = refl
not_false false e = absurd cc

is_zrle : (area : Rect) (encoding : ℕ) (bs : List ℕ) (z : Rect × List ℕ) → Spells (numbered area encoding) bs z → encoding ≡ 16
is_zrle area encoding bs z k = eqb-true encoding 16 (not_false (encoding == zrle) (passed (not (encoding == zrle)) UnknownEncoding (u32 >>= with_data area) bs z k).0)

-- ---- a rectangle in ZRLE is none in another encoding

no_data : (format : PixelFormat) (w h : ℕ) (area : Rect) (encoding : ℕ) (bs : List ℕ) (paint : Paint) → encoding ≡ 16 → Spells (data_of format w h area encoding) bs paint → ⊥
no_data format w h area encoding bs paint e k = no_fault UnknownEncoding bs paint (subst (λ n. Spells (data_of format w h area n) bs paint) e k)

pub outside : (area : Rect) (corner : Bool) (bs : List ℕ) (paint : Paint) → Spells (if corner then (u32 >>= λ encoding. Faulty (fault_outside encoding)) else Faulty RectOutside) bs paint → ⊥
outside area true bs paint k = ends_in_fault u32 fault_outside bs paint k
outside area false bs paint k = no_fault RectOutside bs paint k

apart_behind : (format : PixelFormat) (w h : ℕ) (area : Rect) (within : Bool) (a b c d : List ℕ) (paint : Paint) (z : Rect × List ℕ) → Spells (behind format w h area within) a paint → Spells (u32 >>= numbered area) b z → a ++ c ≡ b ++ d → ⊥
apart_behind format w h area true a b c d paint z k l e =
    let s = both u32 (data_of format w h area) a paint k in
    let t = both u32 (numbered area) b z l in
    let same = prefix_free u32 s.first t.first (s.others ++ c) (t.others ++ d) s.x t.x s.spells t.spells
    (sym (append_assoc s.first s.others c) ∙ (ap (λ u. u ++ c) (sym s.are) ∙ (e ∙ (ap (λ u. u ++ d) t.are ∙ append_assoc t.first t.others d)))) in
    no_data format w h area s.x s.others paint (same.1 ∙ is_zrle area t.x t.others z t.then_spells) s.then_spells
apart_behind format w h area false a b c d paint z k l e = outside area (is_at_corner area) a paint k

pub apart : (format : PixelFormat) (w h : ℕ) (a b c d : List ℕ) (paint : Paint) (z : Rect × List ℕ) → Spells (rectangle format w h) a paint → Spells zrle_rectangle b z → a ++ c ≡ b ++ d → ⊥
apart format w h a b c d paint z k l e =
    let s = both rect (λ area. behind format w h area (is_within area w h)) a paint k in
    let t = both rect (λ area. u32 >>= numbered area) b z l in
    let whole : s.first ++ (s.others ++ c) ≡ t.first ++ (t.others ++ d) =
    sym (append_assoc s.first s.others c) ∙ (ap (λ u. u ++ c) (sym s.are) ∙ (e ∙ (ap (λ u. u ++ d) t.are ∙ append_assoc t.first t.others d))) in
    let same = prefix_free rect s.first t.first (s.others ++ c) (t.others ++ d) s.x t.x s.spells t.spells whole in
    let rest : s.others ++ c ≡ t.others ++ d = append_cancel_left s.first (s.others ++ c) (t.others ++ d) (whole ∙ ap (λ u. u ++ (t.others ++ d)) (sym same.0)) in
    apart_behind format w h s.x (is_within s.x w h) s.others t.others c d paint z s.then_spells (subst (λ (r : Rect). Spells (u32 >>= numbered r) t.others z) (sym same.1) t.then_spells) rest

-- ---- one rectangle

some_width : (w h k : ℕ) → k < w * h → 0 < w
some_width zero h k lt = absurd (let nothing : 0 * h ≡ 0 = omega arith in omega (arith, nothing))
some_width (suc w) h k lt = omega arith

pub values_alike : (w h : ℕ) (a b : Canvas) → LooksLike w h a b → values_of w h a ≡ values_of w h b
values_alike w h a b same =
    map_same (λ k. a (k % w) (k / w)) (λ k. b (k % w) (k / w)) (w * h)
    (λ k lt. let wide : 0 < w = some_width w h k lt in same (k % w) (k / w) (column_in w k wide) (row_in w h k wide lt))

-- Both are the same, and so is what stands behind them.
pub record IsOne {A : Type 0} (first known rest known_rest : List ℕ) (brings known_brings : A) (after known_after : ZlibStream) : Type 0 where
  pub bytes : first ≡ known
  pub behind_it : rest ≡ known_rest
  pub paints : brings ≡ known_brings
  pub leaves : after ≡ known_after

behind_both : (first known rest known_rest : List ℕ) → first ++ rest ≡ known ++ known_rest → first ≡ known → rest ≡ known_rest
behind_both first known rest known_rest e same = append_cancel_left first rest known_rest (e ∙ ap (λ t. t ++ known_rest) (sym same))

one_rectangle : {format : PixelFormat} {w h : ℕ} {before after : ZlibStream} {first : List ℕ} {paint : Paint} → DataBringOneThing → (known rest known_rest : List ℕ) (known_paint : Paint) (known_after : ZlibStream)
    → ReadsRectangle format w h before first paint after → ReadsRectangle format w h before known known_paint known_after → first ++ rest ≡ known ++ known_rest → IsOne first known rest known_rest paint known_paint after known_after
one_rectangle bring known rest known_rest known_paint known_after (in_another format w h stream first paint k) (in_another format' w' h' stream' first' paint' k') e =
    let same = prefix_free (rectangle format w h) first first' rest known_rest paint paint' k k' e in
    record { bytes = same.0; behind_it = behind_both first first' rest known_rest e same.0; paints = same.1; leaves = refl }
one_rectangle bring known rest known_rest known_paint known_after (in_another format w h stream first paint k) (in_zrle format' w' h' before' after' first' zlib_data' area' canvas' k' inside' reads') e =
    absurd (apart format w h first first' rest known_rest paint (area', zlib_data') k k' e)
one_rectangle bring known rest known_rest known_paint known_after (in_zrle format w h before after first zlib_data area canvas k inside reads) (in_another format' w' h' stream' first' paint' k') e =
    absurd (apart format w h first' first known_rest rest paint' (area, zlib_data) k' k (sym e))
one_rectangle bring known rest known_rest known_paint known_after (in_zrle format w h before after first zlib_data area canvas k inside reads) (in_zrle format' w' h' before' after' first' zlib_data' area' canvas' k' inside' reads') e =
    let same = prefix_free zrle_rectangle first first' rest known_rest (area, zlib_data) (area', zlib_data') k k' e in
    let place : area ≡ area' = ap (λ z. z.0) same.1 in
    let content : zlib_data ≡ zlib_data' = ap (λ z. z.1) same.1 in
    let there : ReadsZrle format area.w area.h before zlib_data canvas' after' =
    subst (λ d. ReadsZrle format area.w area.h before d canvas' after') (sym content)
    (subst (λ (r : Rect). ReadsZrle format r.w r.h before zlib_data' canvas' after') (sym place) reads') in
    let one = bring format area.w area.h before after after' zlib_data canvas canvas' reads there in
    record {
      bytes = same.0;
      behind_it = behind_both first first' rest known_rest e same.0;
      paints = ap (λ vs. Put area vs) (values_alike area.w area.h canvas canvas' one.0) ∙ ap (λ (r : Rect). Put r (values_of r.w r.h canvas')) place;
      leaves = one.1;
    }

-- ---- rectangles, and an update

whole_of : (first others rest known known_others known_rest : List ℕ) → (first ++ others) ++ rest ≡ (known ++ known_others) ++ known_rest → first ++ (others ++ rest) ≡ known ++ (known_others ++ known_rest)
whole_of first others rest known known_others known_rest e = sym (append_assoc first others rest) ∙ (e ∙ append_assoc known known_others known_rest)

one_list : {format : PixelFormat} {w h count : ℕ} {before after : ZlibStream} {first : List ℕ} {paints : List Paint} → DataBringOneThing → (known rest known_rest : List ℕ) (known_paints : List Paint) (known_after : ZlibStream)
    → ReadsRectangles format w h count before first paints after → ReadsRectangles format w h count before known known_paints known_after → first ++ rest ≡ known ++ known_rest → IsOne first known rest known_rest paints known_paints after known_after
one_list bring known rest known_rest known_paints known_after (none format w h stream) (none format' w' h' stream') e = record { bytes = refl; behind_it = e; paints = refl; leaves = refl }
one_list bring known rest known_rest known_paints known_after (one_more format w h count before between after first others paint paints reads more) (one_more format' w' h' count' before' between' after' first' others' paint' paints' reads' more') e =
    let one = one_rectangle bring first' (others ++ rest) (others' ++ known_rest) paint' between' reads reads' (whole_of first others rest first' others' known_rest e) in
    let there : ReadsRectangles format w h count between others' paints' after' = subst (λ s. ReadsRectangles format w h count s others' paints' after') (sym one.leaves) more' in
    let list = one_list bring others' rest known_rest paints' after' more there one.behind_it in
    record {
      bytes = ap (λ t. t ++ others) one.bytes ∙ ap (λ t. first' ++ t) list.bytes;
      behind_it = list.behind_it;
      paints = ap (λ p. p ∷ paints) one.paints ∙ ap (λ ps. paint' ∷ ps) list.paints;
      leaves = list.leaves;
    }

pub one_of_updates : DataBringOneThing → (format : PixelFormat) (w h : ℕ) (before after known_after : ZlibStream) (first known rest known_rest : List ℕ) (paints known_paints : List Paint)
    → ReadsUpdate format w h before first paints after → ReadsUpdate format w h before known known_paints known_after → first ++ rest ≡ known ++ known_rest → IsOne first known rest known_rest paints known_paints after known_after
one_of_updates bring format w h before after known_after first known rest known_rest paints known_paints one two e =
    let all : (one.head ++ one.others) ++ rest ≡ (two.head ++ two.others) ++ known_rest = ap (λ t. t ++ rest) (sym one.begins) ∙ (e ∙ ap (λ t. t ++ known_rest) two.begins) in
    let whole : one.head ++ (one.others ++ rest) ≡ two.head ++ (two.others ++ known_rest) = whole_of one.head one.others rest two.head two.others known_rest all in
    let same = prefix_free update_head one.head two.head (one.others ++ rest) (two.others ++ known_rest) one.count two.count one.counts two.counts whole in
    let behind_head : one.others ++ rest ≡ two.others ++ known_rest = behind_both one.head two.head (one.others ++ rest) (two.others ++ known_rest) whole same.0 in
    let there : ReadsRectangles format w h one.count before two.others known_paints known_after = subst (λ n. ReadsRectangles format w h n before two.others known_paints known_after) (sym same.1) two.rectangles in
    let list = one_list bring two.others rest known_rest known_paints known_after one.rectangles there behind_head in
    record {
      bytes = one.begins ∙ (ap (λ t. t ++ one.others) same.0 ∙ (ap (λ t. two.head ++ t) list.bytes ∙ sym two.begins));
      behind_it = list.behind_it;
      paints = list.paints;
      leaves = list.leaves;
    }

pub one_update : DataBringOneThing → (format : PixelFormat) (w h : ℕ) (before after known_after : ZlibStream) (bytes : List ℕ) (paints known_paints : List Paint)
    → ReadsUpdate format w h before bytes paints after → ReadsUpdate format w h before bytes known_paints known_after → (paints ≡ known_paints) × (after ≡ known_after)
one_update bring format w h before after known_after bytes paints known_paints one two =
    let same = one_of_updates bring format w h before after known_after bytes bytes [] [] paints known_paints one two refl in
    (same.paints, same.leaves)

pub updates_end_at_one_place : DataBringOneThing → UpdatesEndAtOnePlace
updates_end_at_one_place bring format w h before after known_after first known rest known_rest paints known_paints e one two =
    let same = one_of_updates bring format w h before after known_after first known rest known_rest paints known_paints one two e in
    record { beginning = same.bytes; behind = same.behind_it }

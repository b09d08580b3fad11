-- Each rectangle of an answer is read as what the screen shows in it. So a viewer that follows the answer holds that.
use Rattle.std.proofs.Common.{◌≡◌, ℕ, suc, ◌+◌, ◌≤◌, ◌/◌, ◌%◌, ◌*◌, Bool, true, false, cond, List, [], ◌∷◌, ◌++◌, ◌∙◌, length, map, Option, Some, None, refl, sym, ap, subst, arith, inl, inr}
use Rattle.std.proofs.lemmas.List.{append_assoc}
use Rattle.std.specs.Prelude.{◌&&◌, ◌||◌}
use Rattle.std.specs.List.{All, flat_map, range_with_len}
use Rattle.pixel_format.specs.PixelFormat.{PixelFormat, IsAccepted, tint}
use Rattle.byte_reading.specs.Reading.{Spells}
use Rattle.raster.specs.declared.rect.Rect.{Rect}
use Rattle.raster.specs.declared.encoding.Encoding.{Encoding}
use Rattle.raster.specs.declared.encoding.Encoding.TheVariants.{Raw}
use Rattle.raster.specs.Encoding.{form, encoding_number}
use Rattle.raster.specs.Screen.{Map, Canvas, holds, part_of, values_of}
use Rattle.raster.specs.Update.{Paint, Put, Copy}
use Rattle.raster.proofs.Places.{Has, has_holds}
use Rattle.raster.proofs.Spellings.{Each}
use Rattle.joined_runs.specs.declared.rect_form.RectForm.{RectForm}
use Rattle.joined_runs.specs.declared.rect_form.RectForm.TheVariants.{OfRows}
use Rattle.joined_runs.specs.Joined.{form_of, saves_bytes_as}
use Rattle.joined_runs.proofs.Spelled.{form_is_read}
use Rattle.rfb_wire.specs.ServerMessage.{rectangle}
use Rattle.rfb_wire.specs.Writing.{rectangle_bytes, update_head_bytes}
use Rattle.rfb_wire.proofs.Updates.{spelled_is_read, copy_is_read}
use Rattle.tiles.specs.Brings.{IsPart, some_holds}
use Rattle.tiles.proofs.RunLaws.{InSome}
use Rattle.update_encoder.specs.Answer.{AreCopiesOn, copy_bytes, pixels_in, repeats, repeats_one, copy_source, spelled}
use Rattle.update_encoder.specs.Follower.{after_rectangle, after_rectangles}
use Rattle.update_encoder.specs.Style.{Style}
use Rattle.update_encoder.proofs.AnswerLaws.{IsRight, IsRightIn, Repeats, after_both, brought, copied, copy_of_host_is_read, paint_brings, paint_keeps, pixels_are_values, repeats_is}
use Rattle.zrle_codec.specs.Reading.{inflated, zlib_head}
use Rattle.zrle_codec.specs.OneThing.{PartsAreRead}
use Rattle.zrle_answer.specs.Rectangle.{ZlibStream, zrle_rectangle_bytes}
use Rattle.zrle_answer.specs.Reading.{ReadsRectangle, ReadsRectangles, ReadsUpdate}
use Rattle.zrle_answer.specs.Reading.ReadsRectangle.{in_another, in_zrle}
use Rattle.zrle_answer.specs.Reading.ReadsRectangles.{none as no_rectangle, one_more as one_rectangle_more}
use Rattle.zrle_answer.specs.Answer.{ZrleStyle, IsSpelled, AreSpelled, shown_in}
use Rattle.zrle_answer.specs.Answer.IsSpelled.{without, compressed}
use Rattle.zrle_answer.specs.Answer.AreSpelled.{none, one_more}
use Rattle.zrle_answer.specs.Follower.{after_update}
use Rattle.zrle_answer.specs.Followed.{AnswersAreFollowed}
use Rattle.zrle_answer.proofs.Wire.{zrle_is_read, head_is_read}

-- ---- a rectangle without ZRLE

-- The rectangle before, where there is one, is part of the screen.
abbrev pub IsPartIf : ℕ → ℕ → Option Rect → Type 0
IsPartIf w h None = Unit {0}
IsPartIf w h (Some r) = IsPart w h r

and_right : (a b : Bool) → (a && b) ≡ true → b ≡ true
and_right true b e = e
and_right false b e = absurd cc

put_is_read : (runs : RectForm) (encoding : Encoding) (format : PixelFormat) (canvas : Canvas) (r : Rect) (w h : ℕ) → IsAccepted format → w ≤ 4096 → h ≤ 4096 → IsPart w h r
    → Spells (rectangle format w h) (rectangle_bytes r (encoding_number encoding) (form_of runs encoding format r.w r.h (pixels_in format canvas r))) (Put r (pixels_in format canvas r))
put_is_read runs encoding format canvas r w h ok lw lh part =
    let values : List ℕ = pixels_in format canvas r in
    spelled_is_read encoding format w h r (form_of runs encoding format r.w r.h values) values (omega arith) (omega arith) part.inside (form_is_read runs encoding format r.w r.h values ok (pixels_are_values format canvas r w h ok lw lh part))

repeat_is_read : (format : PixelFormat) (canvas : Canvas) (above r : Rect) (w h : ℕ) → w ≤ 4096 → h ≤ 4096 → IsPart w h above → IsPart w h r → Repeats canvas above r
    → Spells (rectangle format w h) (rectangle_bytes r 1 (copy_source (Some above))) (Copy r above.x above.y)
repeat_is_read format canvas above r w h lw lh there part e =
    copy_is_read format w h r above.x above.y (omega arith) (omega arith) part.inside (record { across = omega (arith, there.inside.across, e.w); down = omega (arith, there.inside.down, e.h) })

chosen_is_read : (runs : RectForm) (encoding : Encoding) (saves : Bool) (format : PixelFormat) (canvas : Canvas) (r : Rect) (w h : ℕ) → IsAccepted format → w ≤ 4096 → h ≤ 4096 → IsPart w h r
    → Spells (rectangle format w h) (cond saves (rectangle_bytes r (encoding_number encoding) (form_of runs encoding format r.w r.h (pixels_in format canvas r))) (rectangle_bytes r 0 (form Raw format r.w r.h (pixels_in format canvas r)))) (Put r (pixels_in format canvas r))
chosen_is_read runs encoding true format canvas r w h ok lw lh part = put_is_read runs encoding format canvas r w h ok lw lh part
chosen_is_read runs encoding false format canvas r w h ok lw lh part = put_is_read OfRows Raw format canvas r w h ok lw lh part

module _ (style : Style) (canvas : Canvas) (w h : ℕ) (ok : IsAccepted style.format) (lw : w ≤ 4096) (lh : h ≤ 4096) where
  abbrev kind : Encoding
  kind = style.choice.kind

  abbrev saves : Rect → Bool
  saves r = saves_bytes_as style.runs kind style.format r.w r.h (pixels_in style.format canvas r)

  read_if : (copy : Bool) (above : Option Rect) (r : Rect) → IsPartIf w h above → IsPart w h r → (b : Bool) → (copy && repeats_one canvas above r) ≡ b
      → Spells (rectangle style.format w h) (cond b (rectangle_bytes r 1 (copy_source above)) (cond (saves r) (rectangle_bytes r (encoding_number kind) (form_of style.runs kind style.format r.w r.h (pixels_in style.format canvas r))) (rectangle_bytes r 0 (form Raw style.format r.w r.h (pixels_in style.format canvas r))))) (cond b (copied above r) (Put r (pixels_in style.format canvas r)))
  read_if copy above r k part false e = chosen_is_read style.runs kind (saves r) style.format canvas r w h ok lw lh part
  read_if copy None r k part true e = absurd (let wrong : false ≡ true = and_right copy false e in cc)
  read_if copy (Some above) r k part true e = repeat_is_read style.format canvas above r w h lw lh k part (repeats_is canvas above r (and_right copy (repeats canvas above r) e))

  spelled_is : (copy : Bool) (above : Option Rect) (r : Rect) → IsPartIf w h above → IsPart w h r → Spells (rectangle style.format w h) (spelled style canvas copy above r) (brought style.format canvas copy above r)
  spelled_is copy above r k part = read_if copy above r k part (copy && repeats_one canvas above r) refl

-- ---- what one rectangle brings

-- A paint brings what the screen shows in a rectangle, where it was right in the one before.
pub record Shows (format : PixelFormat) (canvas : Canvas) (above : Option Rect) (r : Rect) (paint : Paint) : Type 0 where
  pub brings : (held : Map (Option ℕ)) → IsRightIn format canvas held above → (x y : ℕ) → Has r x y → IsRight format canvas (after_rectangle held paint) x y
  pub keeps : (held : Map (Option ℕ)) → IsRightIn format canvas held above → (x y : ℕ) → IsRight format canvas held x y → IsRight format canvas (after_rectangle held paint) x y

shows_brought : (format : PixelFormat) (canvas : Canvas) (copy : Bool) (above : Option Rect) (r : Rect) → Shows format canvas above r (brought format canvas copy above r)
shows_brought format canvas copy above r =
    record { brings = λ held k x y p. paint_brings format canvas copy above r held k x y p; keeps = λ held k x y p. paint_keeps format canvas copy above r held k x y p }

tinted_after : (f : ℕ → ℕ) (g : ℕ → ℕ) (xs : List ℕ) → map f (map g xs) ≡ map (λ x. f (g x)) xs
tinted_after f g [] = refl
tinted_after f g (x ∷ xs) = ap (λ t. f (g x) ∷ t) (tinted_after f g xs)

shown_values : (format : PixelFormat) (canvas : Canvas) (r : Rect) → pixels_in format canvas r ≡ values_of r.w r.h (shown_in format canvas r)
shown_values format canvas r = tinted_after (tint format) (λ k. part_of r canvas (k % r.w) (k / r.w)) (range_with_len 0 (r.w * r.h))

shows_put : (format : PixelFormat) (canvas : Canvas) (above : Option Rect) (r : Rect) → Shows format canvas above r (Put r (values_of r.w r.h (shown_in format canvas r)))
shows_put format canvas above r =
    subst (λ vs. Shows format canvas above r (Put r vs)) (shown_values format canvas r) (shows_brought format canvas false above r)

-- ---- how it is read

record IsReadOne (format : PixelFormat) (w h : ℕ) (canvas : Canvas) (above : Option Rect) (r : Rect) (before : ZlibStream) (bytes : List ℕ) (after : ZlibStream) : Type 0 where
  paint : Paint
  reads : ReadsRectangle format w h before bytes paint after
  shows : Shows format canvas above r paint

one_is_read : {style : ZrleStyle} {canvas : Canvas} {copy : Bool} {above : Option Rect} {r : Rect} {before : ZlibStream} {bytes : List ℕ} {after : ZlibStream} → PartsAreRead → (w h : ℕ) → IsAccepted style.plain.format → w ≤ 4096 → h ≤ 4096 → IsPartIf w h above → IsPart w h r
    → IsSpelled style canvas copy above r before bytes after → IsReadOne style.plain.format w h canvas above r before bytes after
one_is_read parts w h ok lw lh k part (without style canvas copy above r stream) =
    let format : PixelFormat = style.plain.format in
    record {
      paint = brought format canvas copy above r;
      reads = in_another format w h stream (spelled style.plain canvas copy above r) (brought format canvas copy above r) (spelled_is style.plain canvas w h ok lw lh copy above r k part);
      shows = shows_brought format canvas copy above r;
    }
one_is_read parts w h ok lw lh k part (compressed style canvas copy above r before data_part may is few) =
    let format : PixelFormat = style.plain.format in
    let shown : Canvas = shown_in format canvas r in
    let zlib_data : List ℕ = zlib_head before ++ data_part in
    record {
      paint = Put r (values_of r.w r.h shown);
      reads = in_zrle format w h before (Some (inflated before ++ is.bytes)) (zrle_rectangle_bytes r zlib_data) zlib_data r shown
          (zrle_is_read r zlib_data w h (omega arith) (omega arith) part.inside few) part.inside (parts format r.w r.h before data_part shown is);
      shows = shows_put format canvas above r;
    }

record AreRead (format : PixelFormat) (w h : ℕ) (canvas : Canvas) (above : Option Rect) (rs : List Rect) (before : ZlibStream) (bytes : List ℕ) (after : ZlibStream) : Type 0 where
  paints : List Paint
  reads : ReadsRectangles format w h (length rs) before bytes paints after
  brings : (held : Map (Option ℕ)) → IsRightIn format canvas held above → (x y : ℕ) → InSome rs x y → IsRight format canvas (after_rectangles held paints) x y
  keeps : (held : Map (Option ℕ)) → IsRightIn format canvas held above → (x y : ℕ) → IsRight format canvas held x y → IsRight format canvas (after_rectangles held paints) x y

-- One rectangle, and then others.
one_and : (format : PixelFormat) (w h : ℕ) (canvas : Canvas) (above : Option Rect) (r : Rect) (rs : List Rect) (before between after : ZlibStream) (first others : List ℕ)
    → IsReadOne format w h canvas above r before first between → AreRead format w h canvas (Some r) rs between others after → AreRead format w h canvas above (r ∷ rs) before (first ++ others) after
one_and format w h canvas above r rs before between after first others one more =
    record {
      paints = one.paint ∷ more.paints;
      reads = one_rectangle_more format w h (length rs) before between after first others one.paint more.paints one.reads more.reads;
      brings = λ held k x y i.
          let next : Map (Option ℕ) = after_rectangle held one.paint in
          let right : IsRightIn format canvas next (Some r) = one.shows.brings held k in
          elim i [ inl p ↦ more.keeps next right x y (right x y p) | inr j ↦ more.brings next right x y j ];
      keeps = λ held k x y p. more.keeps (after_rectangle held one.paint) (one.shows.brings held k) x y (one.shows.keeps held k x y p);
    }

are_read : {style : ZrleStyle} {canvas : Canvas} {copy : Bool} {above : Option Rect} {rs : List Rect} {before : ZlibStream} {bytes : List ℕ} {after : ZlibStream} → PartsAreRead → (w h : ℕ) → IsAccepted style.plain.format → w ≤ 4096 → h ≤ 4096 → IsPartIf w h above → Each (IsPart w h) rs
    → AreSpelled style canvas copy above rs before bytes after → AreRead style.plain.format w h canvas above rs before bytes after
are_read parts w h ok lw lh k each (none style canvas copy above stream) =
    record { paints = []; reads = no_rectangle style.plain.format w h stream; brings = λ held k x y i. absurd i; keeps = λ held k x y p. p }
are_read parts w h ok lw lh k each (one_more style canvas copy above r rs before between after first others spells more) =
    one_and style.plain.format w h canvas above r rs before between after first others (one_is_read parts w h ok lw lh k each.0 spells) (are_read parts w h ok lw lh each.0 each.1 more)

-- ---- the copies in front

-- Each copy is read as itself, and leaves the stream as it is. So are copies in front of rectangles that are read.
copies_then : (format : PixelFormat) (w h count : ℕ) (copies : List Paint) (before : ZlibStream) (others : List ℕ) (paints : List Paint) (after : ZlibStream) → w ≤ 4096 → h ≤ 4096 → AreCopiesOn w h copies
    → ReadsRectangles format w h count before others paints after → ReadsRectangles format w h (length copies + count) before (flat_map copy_bytes copies ++ others) (copies ++ paints) after
copies_then format w h count [] before others paints after lw lh on reads =
    let counted : count ≡ 0 + count = omega arith in
    subst (λ n. ReadsRectangles format w h n before others paints after) counted reads
copies_then format w h count (p ∷ ps) before others paints after lw lh on reads =
    let more = copies_then format w h count ps before others paints after lw lh (λ k d lt. on (suc k) d (omega (arith, lt))) reads in
    let counted : suc (length ps + count) ≡ suc (length ps) + count = omega arith in
    subst (λ n. ReadsRectangles format w h n before ((copy_bytes p ++ flat_map copy_bytes ps) ++ others) (p ∷ (ps ++ paints)) after) counted
    (subst (λ t. ReadsRectangles format w h (suc (length ps + count)) before t (p ∷ (ps ++ paints)) after) (sym (append_assoc (copy_bytes p) (flat_map copy_bytes ps) others))
    (one_rectangle_more format w h (length ps + count) before before after (copy_bytes p) (flat_map copy_bytes ps ++ others) p (ps ++ paints)
    (in_another format w h before (copy_bytes p) p (copy_of_host_is_read format w h p lw lh (on 0 p (omega arith)))) more))

-- ---- an answer

each_of_all : {A : Type 0} (P : A → Type 0) (xs : List A) → All P xs → Each P xs
each_of_all P [] h = tt
each_of_all P (x ∷ xs) h = (h 0 x (omega arith), each_of_all P xs (λ k d lt. h (suc k) d (omega arith)))

in_some_if : (r : Rect) (rs : List Rect) (x y : ℕ) (b : Bool) → holds r x y ≡ b → (b || some_holds rs x y) ≡ true → (some_holds rs x y ≡ true → InSome rs x y) → InSome (r ∷ rs) x y
in_some_if r rs x y true e s next = inl (has_holds r x y e)
in_some_if r rs x y false e s next = inr (next s)

in_some : (rs : List Rect) (x y : ℕ) → some_holds rs x y ≡ true → InSome rs x y
in_some [] x y e = absurd cc
in_some (r ∷ rs) x y e = in_some_if r rs x y (holds r x y) refl e (in_some rs x y)

pub answers_are_followed : PartsAreRead → AnswersAreFollowed
answers_are_followed parts w h style canvas copies sent rs before bytes stream lw lh ok on each few same is =
    let held : Map (Option ℕ) = after_rectangles before.known.held copies in
    let count : ℕ = length copies + length rs in
    let all = are_read parts w h ok lw lh tt (each_of_all (IsPart w h) rs each) is.spelled_so in
    let here : (m : Map (Option ℕ)) (x y : ℕ) → IsRight style.plain.format canvas m x y → IsRight before.known.format canvas m x y = λ m x y p. p ∙ ap (λ f. Some (tint f (canvas x y))) (sym same) in
    let there : (m : Map (Option ℕ)) (x y : ℕ) → IsRight before.known.format canvas m x y → IsRight style.plain.format canvas m x y = λ m x y p. p ∙ ap (λ f. Some (tint f (canvas x y))) same in
    let paints : List Paint = copies ++ all.paints in
    let reads : ReadsUpdate style.plain.format w h before.stream bytes paints stream = record {
      count = count;
      head = update_head_bytes count;
      others = flat_map copy_bytes copies ++ is.others;
      begins = is.are ∙ append_assoc (update_head_bytes count) (flat_map copy_bytes copies) is.others;
      counts = head_is_read count few;
      rectangles = copies_then style.plain.format w h (length rs) copies before.stream is.others all.paints stream lw lh on all.reads;
    } in
    let end : after_rectangles held all.paints ≡ after_rectangles before.known.held paints = sym (after_both before.known.held copies all.paints) in
    let so : (x y : ℕ) → IsRight style.plain.format canvas (after_rectangles held all.paints) x y → IsRight before.known.format canvas (after_rectangles before.known.held paints) x y =
    λ x y p. subst (λ (m : Map (Option ℕ)). IsRight before.known.format canvas m x y) end (here (after_rectangles held all.paints) x y p) in (
      after_update before paints stream,
      record { paints = paints; stream = stream; reads = subst (λ f. ReadsUpdate f w h before.stream bytes paints stream) (sym same) reads; leaves = refl },
      record {
        same_format = refl;
        stream_is = refl;
        brings = λ x y i. so x y (all.brings held tt x y (in_some rs x y i));
        keeps = λ x y p. so x y (all.keeps held tt x y (there held x y p));
      },
    )

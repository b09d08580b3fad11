-- The bytes of an answer are read as its rectangles, and these bring what the screen shows. So a viewer that follows
-- its answers holds what it asked for.
use Rattle.std.proofs.Common.{◌≡◌, ℕ, ◌+◌, ◌-◌, ◌^◌, ◌<◌, ◌≤◌, Bool, true, false, cond, List, [], ◌∷◌, ◌++◌, length, map, Option, Some, None, refl, ap, sym, ◌∙◌, arith, inl, inr, zero, suc, eq-eqb, length-append}
use Rattle.std.proofs.lemmas.Bool.{eqb-true}
use Rattle.std.specs.Prelude.{◌&&◌, ◌==◌, slice_index, if◌then◌else◌}
use Rattle.pixel_format.specs.PixelFormat.{PixelFormat, IsAccepted, tint}
use Rattle.byte_reading.specs.Reading.{Spells, after, taken, whole_of}
use Rattle.std.proofs.lemmas.List.{length-map}
use Rattle.raster.specs.declared.encoding.Encoding.TheVariants.{Raw}
use Rattle.rfb_wire.specs.Writing.{rectangle_bytes}
use Rattle.pixel_format.proofs.Tints.{tint_below}
use Rattle.raster.specs.declared.rect.Rect.{Rect}
use Rattle.raster.specs.declared.encoding.Encoding.{Encoding}
use Rattle.raster.specs.Screen.{Map, Canvas, holds, value_at, part_of}
use Rattle.raster.specs.Encoding.{form, encoding_number}
use Rattle.joined_runs.specs.declared.rect_form.RectForm.{RectForm}
use Rattle.joined_runs.specs.declared.rect_form.RectForm.TheVariants.{OfRows}
use Rattle.joined_runs.specs.Joined.{form_of, saves_bytes_as}
use Rattle.joined_runs.proofs.Spelled.{form_is_read}
use Rattle.raster.specs.Written.{AreValues}
use Rattle.raster.specs.Update.{Paint, Put, Copy, Resized}
use Rattle.rfb_wire.specs.ServerMessage.{ServerMessage, FramebufferUpdate, rectangle, server_message}
use Rattle.update_encoder.specs.Follower.{after_rectangle, after_rectangles, only_message}
use Rattle.update_encoder.specs.Answer.{AreCopiesOn, IsCopyOn, pixels_in, colours_in, copy_bytes, same_numbers, repeats, repeats_one, copy_source, all_spelled, answer_bytes}
use Rattle.raster.proofs.Places.{Has, has_holds, holds_has, values_at, tinted_at, length_values}
use Rattle.raster.proofs.Spellings.{Each}
use Rattle.rfb_wire.specs.Written.{AreRead}
use Rattle.rfb_wire.proofs.Updates.{spelled_is_read, copy_is_read, update_is_read}
use Rattle.tiles.specs.Brings.{IsPart}
use Rattle.update_encoder.specs.Style.{Style}
use Rattle.update_encoder.proofs.Counts.{count_spelled}
use Rattle.tiles.proofs.RunLaws.{InSome}

-- The paint that a rectangle of an answer is read as.
abbrev pub copied : Option Rect → Rect → Paint
copied None r = Copy r 0 0
copied (Some above) r = Copy r above.x above.y

abbrev pub brought : PixelFormat → Canvas → Bool → Option Rect → Rect → Paint
brought format canvas may_copy before r = if may_copy && repeats_one canvas before r then copied before r else Put r (pixels_in format canvas r)

abbrev pub all_brought : PixelFormat → Canvas → Bool → Option Rect → List Rect → List Paint
all_brought format canvas may_copy before [] = []
all_brought format canvas may_copy before (r ∷ rs) = brought format canvas may_copy before r ∷ all_brought format canvas may_copy (Some r) rs

-- A position is held as the screen shows it.
abbrev pub IsRight : PixelFormat → Canvas → Map (Option ℕ) → ℕ → ℕ → Type 0
IsRight format canvas held x y = held x y ≡ Some (tint format (canvas x y))

-- So is each of a rectangle, where there is one.
abbrev pub IsRightIn : PixelFormat → Canvas → Map (Option ℕ) → Option Rect → Type 0
IsRightIn format canvas held None = Unit {0}
IsRightIn format canvas held (Some r) = (x y : ℕ) → Has r x y → IsRight format canvas held x y

-- ---- what a rectangle brings

chosen : {A : Type 0} (b : Bool) (u v : A) → b ≡ true → cond b u v ≡ u
chosen true u v e = refl
chosen false u v e = absurd cc

not_chosen : {A : Type 0} (b : Bool) (u v : A) → b ≡ false → cond b u v ≡ v
not_chosen true u v e = absurd cc
not_chosen false u v e = refl

and_left : (a b : Bool) → (a && b) ≡ true → a ≡ true
and_left true b e = refl
and_left false b e = absurd cc

and_right : (a b : Bool) → (a && b) ≡ true → b ≡ true
and_right true b e = e
and_right false b e = absurd cc

pub same_numbers_same : (xs ys : List ℕ) → same_numbers xs ys ≡ true → xs ≡ ys
same_numbers_same [] [] e = refl
same_numbers_same [] (y ∷ ys) e = absurd cc
same_numbers_same (x ∷ xs) [] e = absurd cc
same_numbers_same (x ∷ xs) (y ∷ ys) e =
    let head : x ≡ y = eqb-true x y (and_left (x == y) (same_numbers xs ys) e) in
    let tail : xs ≡ ys = same_numbers_same xs ys (and_right (x == y) (same_numbers xs ys) e) in
    cc

-- What it says that a rectangle repeats another.
pub record Repeats (canvas : Canvas) (above r : Rect) : Type 0 where
  pub x : above.x ≡ r.x
  pub w : above.w ≡ r.w
  pub h : above.h ≡ r.h
  pub colours : colours_in canvas above ≡ colours_in canvas r

pub repeats_is : (canvas : Canvas) (above r : Rect) → repeats canvas above r ≡ true → Repeats canvas above r
repeats_is canvas above r e =
    let same : Bool = same_numbers (colours_in canvas above) (colours_in canvas r) in
    let b1 : Bool = above.x == r.x in
    let b2 : Bool = above.w == r.w in
    let b3 : Bool = above.h == r.h in
    let b4 : Bool = above.y + above.h == r.y in
    let e2 : (b2 && (b3 && (b4 && same))) ≡ true = and_right b1 (b2 && (b3 && (b4 && same))) e in
    let e3 : (b3 && (b4 && same)) ≡ true = and_right b2 (b3 && (b4 && same)) e2 in
    let e4 : (b4 && same) ≡ true = and_right b3 (b4 && same) e3 in
    record {
      x = eqb-true above.x r.x (and_left b1 (b2 && (b3 && (b4 && same))) e);
      w = eqb-true above.w r.w (and_left b2 (b3 && (b4 && same)) e2);
      h = eqb-true above.h r.h (and_left b3 (b4 && same) e3);
      colours = same_numbers_same (colours_in canvas above) (colours_in canvas r) (and_right b4 same e4);
    }

-- The same colours stand at the same place of both.
same_colour : (canvas : Canvas) (above r : Rect) (i j : ℕ) → Repeats canvas above r → i < r.w → j < r.h → canvas (above.x + i) (above.y + j) ≡ canvas (r.x + i) (r.y + j)
same_colour canvas above r i j k li lj =
    sym (values_at above.w above.h (part_of above canvas) i j (omega (arith, k.w)) (omega (arith, k.h)))
    ∙ (ap (λ n. value_at n (colours_in canvas above) i j) k.w
    ∙ (ap (λ vs. value_at r.w vs i j) k.colours
    ∙ values_at r.w r.h (part_of r canvas) i j li lj))

put_brings : (format : PixelFormat) (canvas : Canvas) (r : Rect) (held : Map (Option ℕ)) (x y : ℕ) → Has r x y → IsRight format canvas (after_rectangle held (Put r (pixels_in format canvas r))) x y
put_brings format canvas r held x y p =
    let i : ℕ = x - r.x in
    let j : ℕ = y - r.y in
    let ex : r.x + i ≡ x = omega (arith, p.left) in
    let ey : r.y + j ≡ y = omega (arith, p.top) in
    chosen (holds r x y) (Some (value_at r.w (pixels_in format canvas r) i j)) (held x y) (holds_has r x y p)
    ∙ (ap (λ n. Some n) (tinted_at (tint format) r.w r.h (part_of r canvas) i j (omega (arith, p.left, p.right)) (omega (arith, p.top, p.bottom)))
    ∙ (ap (λ n. Some (tint format (canvas n (r.y + j)))) ex ∙ ap (λ n. Some (tint format (canvas x n))) ey))

copy_brings : (format : PixelFormat) (canvas : Canvas) (above r : Rect) (held : Map (Option ℕ)) → ((x y : ℕ) → Has above x y → IsRight format canvas held x y) → Repeats canvas above r
    → (x y : ℕ) → Has r x y → IsRight format canvas (after_rectangle held (Copy r above.x above.y)) x y
copy_brings format canvas above r held k e x y p =
    let i : ℕ = x - r.x in
    let j : ℕ = y - r.y in
    let ex : r.x + i ≡ x = omega (arith, p.left) in
    let ey : r.y + j ≡ y = omega (arith, p.top) in
    let li : i < r.w = omega (arith, p.left, p.right) in
    let lj : j < r.h = omega (arith, p.top, p.bottom) in
    let there : Has above (above.x + i) (above.y + j) = record { left = omega arith; right = omega (arith, e.w); top = omega arith; bottom = omega (arith, e.h) } in
    chosen (holds r x y) (held (above.x + i) (above.y + j)) (held x y) (holds_has r x y p)
    ∙ (k (above.x + i) (above.y + j) there
    ∙ (ap (λ n. Some (tint format n)) (same_colour canvas above r i j e li lj)
    ∙ (ap (λ n. Some (tint format (canvas n (r.y + j)))) ex ∙ ap (λ n. Some (tint format (canvas x n))) ey)))

brings_if : (format : PixelFormat) (canvas : Canvas) (copy : Bool) (before : Option Rect) (r : Rect) (held : Map (Option ℕ)) → IsRightIn format canvas held before
    → (b : Bool) → (copy && repeats_one canvas before r) ≡ b → (x y : ℕ) → Has r x y → IsRight format canvas (after_rectangle held (cond b (copied before r) (Put r (pixels_in format canvas r)))) x y
brings_if format canvas copy before r held k false e x y p = put_brings format canvas r held x y p
brings_if format canvas copy None r held k true e x y p = absurd (let wrong : false ≡ true = and_right copy false e in cc)
brings_if format canvas copy (Some above) r held k true e x y p = copy_brings format canvas above r held k (repeats_is canvas above r (and_right copy (repeats canvas above r) e)) x y p

leaves_if : (held : Map (Option ℕ)) (b : Bool) (before : Option Rect) (r : Rect) (values : List ℕ) (x y : ℕ) → holds r x y ≡ false → after_rectangle held (cond b (copied before r) (Put r values)) x y ≡ held x y
leaves_if held false before r values x y e = not_chosen (holds r x y) (Some (value_at r.w values (x - r.x) (y - r.y))) (held x y) e
leaves_if held true None r values x y e = not_chosen (holds r x y) (held (0 + (x - r.x)) (0 + (y - r.y))) (held x y) e
leaves_if held true (Some above) r values x y e = not_chosen (holds r x y) (held (above.x + (x - r.x)) (above.y + (y - r.y))) (held x y) e

pub paint_brings : (format : PixelFormat) (canvas : Canvas) (copy : Bool) (before : Option Rect) (r : Rect) (held : Map (Option ℕ)) → IsRightIn format canvas held before
    → (x y : ℕ) → Has r x y → IsRight format canvas (after_rectangle held (brought format canvas copy before r)) x y
paint_brings format canvas copy before r held k x y p = brings_if format canvas copy before r held k (copy && repeats_one canvas before r) refl x y p

keeps_if : (format : PixelFormat) (canvas : Canvas) (copy : Bool) (before : Option Rect) (r : Rect) (held : Map (Option ℕ)) → IsRightIn format canvas held before
    → (x y : ℕ) → IsRight format canvas held x y → (b : Bool) → holds r x y ≡ b → IsRight format canvas (after_rectangle held (brought format canvas copy before r)) x y
keeps_if format canvas copy before r held k x y p true e = paint_brings format canvas copy before r held k x y (has_holds r x y e)
keeps_if format canvas copy before r held k x y p false e = leaves_if held (copy && repeats_one canvas before r) before r (pixels_in format canvas r) x y e ∙ p

-- A rectangle leaves a position right.
pub paint_keeps : (format : PixelFormat) (canvas : Canvas) (copy : Bool) (before : Option Rect) (r : Rect) (held : Map (Option ℕ)) → IsRightIn format canvas held before
    → (x y : ℕ) → IsRight format canvas held x y → IsRight format canvas (after_rectangle held (brought format canvas copy before r)) x y
paint_keeps format canvas copy before r held k x y p = keeps_if format canvas copy before r held k x y p (holds r x y) refl

pub paints_keep : (format : PixelFormat) (canvas : Canvas) (copy : Bool) (before : Option Rect) (rs : List Rect) (held : Map (Option ℕ)) → IsRightIn format canvas held before
    → (x y : ℕ) → IsRight format canvas held x y → IsRight format canvas (after_rectangles held (all_brought format canvas copy before rs)) x y
paints_keep format canvas copy before [] held k x y p = p
paints_keep format canvas copy before (r ∷ rs) held k x y p =
    paints_keep format canvas copy (Some r) rs (after_rectangle held (brought format canvas copy before r)) (paint_brings format canvas copy before r held k) x y
    (paint_keeps format canvas copy before r held k x y p)

pub paints_bring : (format : PixelFormat) (canvas : Canvas) (copy : Bool) (before : Option Rect) (rs : List Rect) (held : Map (Option ℕ)) → IsRightIn format canvas held before
    → (x y : ℕ) → InSome rs x y → IsRight format canvas (after_rectangles held (all_brought format canvas copy before rs)) x y
paints_bring format canvas copy before [] held k x y i = absurd i
paints_bring format canvas copy before (r ∷ rs) held k x y (inl p) =
    paints_keep format canvas copy (Some r) rs (after_rectangle held (brought format canvas copy before r)) (paint_brings format canvas copy before r held k) x y
    (paint_brings format canvas copy before r held k x y p)
paints_bring format canvas copy before (r ∷ rs) held k x y (inr i) =
    paints_bring format canvas copy (Some r) rs (after_rectangle held (brought format canvas copy before r)) (paint_brings format canvas copy before r held k) x y i

-- ---- how a rectangle is read

-- The rectangle before, where there is one, is part of the screen.
abbrev IsPartIf : ℕ → ℕ → Option Rect → Type 0
IsPartIf w h None = Unit {0}
IsPartIf w h (Some r) = IsPart w h r

tinted_small : (format : PixelFormat) (colours : List ℕ) (k : ℕ) → IsAccepted format → slice_index (map (tint format) colours) k < 2 ^ format.bits_per_pixel
tinted_small format [] k a = omega (arith, tint_below format 0 a)
tinted_small format (c ∷ cs) zero a = tint_below format c a
tinted_small format (c ∷ cs) (suc k) a = tinted_small format cs k a

-- The pixel values of a part of the screen.
pub pixels_are_values : (format : PixelFormat) (canvas : Canvas) (r : Rect) (w h : ℕ) → IsAccepted format → w ≤ 4096 → h ≤ 4096 → IsPart w h r → AreValues format r.w r.h (pixels_in format canvas r)
pixels_are_values format canvas r w h ok lw lh part =
    let right : r.x + r.w ≤ w = part.inside.across in
    let bottom : r.y + r.h ≤ h = part.inside.down in
    record {
      wide = (omega (arith, part.wide), omega arith);
      high = (omega (arith, part.high), omega arith);
      count = length-map (colours_in canvas r) (tint format) ∙ length_values r.w r.h (part_of r canvas);
      each = λ k lt. tinted_small format (colours_in canvas r) k ok;
    }

put_is_read : (runs : RectForm) (encoding : Encoding) (format : PixelFormat) (canvas : Canvas) (r : Rect) (w h : ℕ) → IsAccepted format → w ≤ 4096 → h ≤ 4096 → IsPart w h r
    → Spells (rectangle format w h) (rectangle_bytes r (encoding_number encoding) (form_of runs encoding format r.w r.h (pixels_in format canvas r))) (Put r (pixels_in format canvas r))
put_is_read runs encoding format canvas r w h ok lw lh part =
    let values : List ℕ = pixels_in format canvas r in
    spelled_is_read encoding format w h r (form_of runs encoding format r.w r.h values) values (omega arith) (omega arith) part.inside (form_is_read runs encoding format r.w r.h values ok (pixels_are_values format canvas r w h ok lw lh part))

repeat_is_read : (format : PixelFormat) (canvas : Canvas) (above r : Rect) (w h : ℕ) → w ≤ 4096 → h ≤ 4096 → IsPart w h above → IsPart w h r → Repeats canvas above r
    → Spells (rectangle format w h) (rectangle_bytes r 1 (copy_source (Some above))) (Copy r above.x above.y)
repeat_is_read format canvas above r w h lw lh there part e =
    copy_is_read format w h r above.x above.y (omega arith) (omega arith) part.inside (record { across = omega (arith, there.inside.across, e.w); down = omega (arith, there.inside.down, e.h) })

chosen_is_read : (runs : RectForm) (encoding : Encoding) (saves : Bool) (format : PixelFormat) (canvas : Canvas) (r : Rect) (w h : ℕ) → IsAccepted format → w ≤ 4096 → h ≤ 4096 → IsPart w h r
    → Spells (rectangle format w h) (cond saves (rectangle_bytes r (encoding_number encoding) (form_of runs encoding format r.w r.h (pixels_in format canvas r))) (rectangle_bytes r 0 (form Raw format r.w r.h (pixels_in format canvas r)))) (Put r (pixels_in format canvas r))
chosen_is_read runs encoding true format canvas r w h ok lw lh part = put_is_read runs encoding format canvas r w h ok lw lh part
chosen_is_read runs encoding false format canvas r w h ok lw lh part = put_is_read OfRows Raw format canvas r w h ok lw lh part

-- Each copy of the host that is passed on is read as that copy.
pub copy_of_host_is_read : (format : PixelFormat) (w h : ℕ) (p : Paint) → w ≤ 4096 → h ≤ 4096 → IsCopyOn w h p → Spells (rectangle format w h) (copy_bytes p) p
copy_of_host_is_read format w h (Copy r sx sy) lw lh on = copy_is_read format w h r sx sy (omega arith) (omega arith) on.0 on.1
copy_of_host_is_read format w h (Put r colours) lw lh on = absurd on
copy_of_host_is_read format w h (Resized size) lw lh on = absurd on

copies_are_read : (format : PixelFormat) (w h : ℕ) (copies : List Paint) → w ≤ 4096 → h ≤ 4096 → AreCopiesOn w h copies → AreRead format w h (map copy_bytes copies) copies
copies_are_read format w h [] lw lh on = tt
copies_are_read format w h (p ∷ ps) lw lh on = (
  copy_of_host_is_read format w h p lw lh (on 0 p (omega arith)),
  copies_are_read format w h ps lw lh (λ k d lt. on (suc k) d (omega (arith, lt))),
)

-- Rectangles are read one behind another.
both_are_read : (format : PixelFormat) (w h : ℕ) (first others : List (List ℕ)) (ps qs : List Paint) → AreRead format w h first ps → AreRead format w h others qs → AreRead format w h (first ++ others) (ps ++ qs)
both_are_read format w h [] others [] qs a b = b
both_are_read format w h [] others (p ∷ ps) qs a b = absurd a
both_are_read format w h (f ∷ first) others [] qs a b = absurd a
both_are_read format w h (f ∷ first) others (p ∷ ps) qs a b = (a.0, both_are_read format w h first others ps qs a.1 b)

module _ (style : Style) (canvas : Canvas) where
  abbrev format : PixelFormat
  format = style.format

  abbrev kind : Encoding
  kind = style.choice.kind

  abbrev saves : Rect → Bool
  saves r = saves_bytes_as style.runs kind format r.w r.h (pixels_in format canvas r)

  read_if : (copy : Bool) (before : Option Rect) (r : Rect) (w h : ℕ) → IsAccepted format → w ≤ 4096 → h ≤ 4096 → IsPartIf w h before → IsPart w h r → (b : Bool) → (copy && repeats_one canvas before r) ≡ b
      → Spells (rectangle format w h) (cond b (rectangle_bytes r 1 (copy_source before)) (cond (saves r) (rectangle_bytes r (encoding_number kind) (form_of style.runs kind format r.w r.h (pixels_in format canvas r))) (rectangle_bytes r 0 (form Raw format r.w r.h (pixels_in format canvas r))))) (cond b (copied before r) (Put r (pixels_in format canvas r)))
  read_if copy before r w h ok lw lh k part false e = chosen_is_read style.runs kind (saves r) format canvas r w h ok lw lh part
  read_if copy None r w h ok lw lh k part true e = absurd (let wrong : false ≡ true = and_right copy false e in cc)
  read_if copy (Some above) r w h ok lw lh k part true e = repeat_is_read format canvas above r w h lw lh k part (repeats_is canvas above r (and_right copy (repeats canvas above r) e))

  -- Each rectangle of an answer is read as what it brings.
  spelled_are_read : (copy : Bool) (before : Option Rect) (rs : List Rect) (w h : ℕ) → IsAccepted format → w ≤ 4096 → h ≤ 4096 → IsPartIf w h before → Each (IsPart w h) rs
      → AreRead format w h (all_spelled style canvas copy before rs) (all_brought format canvas copy before rs)
  spelled_are_read copy before [] w h ok lw lh k parts = tt
  spelled_are_read copy before (r ∷ rs) w h ok lw lh k parts = (
    read_if copy before r w h ok lw lh k parts.0 (copy && repeats_one canvas before r) refl,
    spelled_are_read copy (Some r) rs w h ok lw lh parts.0 parts.1,
  )

-- What spells a message is exactly one.
pub spells_only : (format : PixelFormat) (w h : ℕ) (bytes : List ℕ) (m : ServerMessage) → Spells (server_message format w h) bytes m → only_message format w h bytes ≡ Some m
spells_only format w h bytes m k =
    chosen (taken (server_message format w h) bytes == length bytes) (whole_of (after (server_message format w h) bytes)) None (eq-eqb _ _ k.whole) ∙ ap whole_of k.says

-- An answer is exactly one FramebufferUpdate of its copies, and then of its rectangles.
pub answer_is_read : (style : Style) (canvas : Canvas) (copies : List Paint) (sent : Bool) (rs : List Rect) (w h : ℕ) → IsAccepted style.format → w ≤ 4096 → h ≤ 4096 → AreCopiesOn w h copies → Each (IsPart w h) rs → length copies + length rs < 2 ^ 16
    → Spells (server_message style.format w h) (answer_bytes style canvas copies sent rs) (FramebufferUpdate (copies ++ all_brought style.format canvas (style.choice.copy && sent) None rs))
answer_is_read style canvas copies sent rs w h ok lw lh on parts few =
    let copy : Bool = style.choice.copy && sent in
    let front : List (List ℕ) = map copy_bytes copies in
    let behind : List (List ℕ) = all_spelled style canvas copy None rs in
    let brings : List Paint = all_brought style.format canvas copy None rs in
    update_is_read style.format w h (front ++ behind) (copies ++ brings)
    (omega (arith, few, length-append front behind, length-map copies copy_bytes, count_spelled style canvas copy None rs))
    (both_are_read style.format w h front behind copies brings (copies_are_read style.format w h copies lw lh on) (spelled_are_read style canvas copy None rs w h ok lw lh tt parts))

-- What a follower holds after some paints and then others.
pub after_both : (held : Map (Option ℕ)) (ps qs : List Paint) → after_rectangles held (ps ++ qs) ≡ after_rectangles (after_rectangles held ps) qs
after_both held [] qs = refl
after_both held (p ∷ ps) qs = after_both (after_rectangle held p) ps qs

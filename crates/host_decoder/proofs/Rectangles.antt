-- The rectangles of an update, one after another. The decoder counts those that are left.
use Rattle.std.proofs.Common.{◌≡◌, ℕ, suc, ◌-◌, ◌<◌, Bool, true, false, List, [], ◌∷◌, ◌++◌, length, map, take, inr, sym, ap, subst, ◌∙◌, append_assoc, arith}
use Rattle.std.specs.Prelude.{if◌then◌else◌}
use mathlib.Core.Path.{fun_ext}
use Rattle.std.proofs.lemmas.List.{append-nil}
use Rattle.byte_reading.proofs.ReadingLaws.{bind_assoc}
use Rattle.pixel_format.specs.PixelFormat.{host_format}
use Rattle.fault.specs.declared.kinds.Fault.TheVariants.{RectOutside}
use Rattle.byte_reading.specs.Reading.{Reading, Done, Faulty, ◌>>=◌, after, times, u32, Spells}
use Rattle.raster.specs.declared.rect.Rect.{Rect}
use Rattle.raster.specs.Encoding.{rect}
use Rattle.raster.specs.Screen.{Canvas, is_within}
use Rattle.raster.specs.Update.{Paint, after_paints, of_paints}
use Rattle.painter.specs.Painter.{Painting}
use Rattle.painter.specs.Same.{AreSameUpdates}
use Rattle.painter.specs.Patch.{SizedUpdate}
use Rattle.rfb_wire.specs.ServerMessage.{ServerMessage, FramebufferUpdate, data_of, fault_outside, is_at_corner, rectangle}
use Rattle.host_decoder.specs.declared.event.HostEvent.TheVariants as event
use Rattle.host_decoder.specs.declared.part.HostPart.{HostPart}
use Rattle.host_decoder.specs.declared.part.HostPart.TheVariants as part
use Rattle.host_decoder.specs.declared.state.HostState.TheVariants as state
use Rattle.host_decoder.specs.Updates.{in_colours}
use Rattle.host_decoder.specs.Decoder.{GoesOn, Holds, InPart, behind, form_of, rectangles, with_others}
use Rattle.host_decoder.proofs.HostParts.{head_read}

-- One of them, and then the others.
pub one_and_others : (w h : ℕ) (sofar : List Paint) (left : ℕ) → rectangles w h sofar (suc left) ≡ with_others w h sofar left (rectangle host_format w h)
one_and_others w h sofar left =
    let one : Reading Paint = rectangle host_format w h in
    let others : Reading (List Paint) = times left one in
    let all : Paint → Reading (List Paint) = λ first. others >>= λ ps. Done (first ∷ ps) in
    let end : List Paint → Reading ServerMessage = λ ps. Done (FramebufferUpdate (sofar ++ ps)) in
    bind_assoc one all end
    ∙ ap (λ (f : Paint → Reading ServerMessage). one >>= f) (fun_ext (λ first.
    bind_assoc others (λ ps. Done (first ∷ ps)) end
    ∙ ap (λ (f : List Paint → Reading ServerMessage). others >>= f) (fun_ext (λ ps. ap (λ t. Done (FramebufferUpdate t)) (sym (append_assoc sofar (first ∷ []) ps))))))

-- The next one's place is read.
pub to_area : (painter : Painting) (left : ℕ) (fields : HostPart × List ℕ) (start : Canvas) (sofar : List Paint) → 0 < left → fields ≡ (part.Area (left - 1), []) → Holds start painter sofar
    → GoesOn painter painter (state.Fields fields) start (rectangles painter.width painter.height sofar left)
to_area painter left fields start sofar some is holds =
    let w : ℕ = painter.width in
    let h : ℕ = painter.height in
    let grown : suc (left - 1) ≡ left = omega arith in
    let reads : rectangles w h sofar left ≡ after (form_of w h sofar (part.Area (left - 1))) [] = ap (λ n. rectangles w h sofar n) (sym grown) ∙ one_and_others w h sofar (left - 1) in
    let here : InPart w h (part.Area (left - 1)) [] start painter (rectangles w h sofar left) = record { sofar = sofar; holds = holds; suited = tt; missing = omega arith; reads = reads } in
    inr (subst (λ (f : HostPart × List ℕ). InPart w h f.0 f.1 start painter (rectangles w h sofar left)) (sym is) here)

-- None is left, and the update has its patch.
pub to_end : (old new : Painting) (left : ℕ) (patch : SizedUpdate) (start : Canvas) (sofar : List Paint) → left ≡ 0 → (patch.width ≡ old.width) × (patch.height ≡ old.height)
    → AreSameUpdates old.width old.height start (of_paints (map in_colours sofar) ∷ []) (patch.update ∷ [])
    → Holds (after_paints start (map in_colours sofar)) new [] → GoesOn old new (state.Whole (event.Paint patch)) start (rectangles old.width old.height sofar left)
to_end old new left patch start sofar none sized same shows =
    inr (record {
      message = FramebufferUpdate sofar;
      reads = ap (λ n. rectangles old.width old.height sofar n) none ∙ ap (λ ps. Done (FramebufferUpdate ps)) (append-nil sofar);
      brings = record { sized = sized; same = same };
      shows = shows;
    })

-- ---- the place of a rectangle

-- What follows it, where it is within the screen or not, and at the top left or not.
abbrev placed : ℕ → ℕ → Rect → Bool → Bool → Reading Paint
placed w h area within corner =
    if within then (u32 >>= data_of host_format w h area) else (if corner then (u32 >>= λ encoding. Faulty (fault_outside encoding)) else Faulty RectOutside)

abbrev judged : ℕ → ℕ → Rect → Reading Paint
judged w h area = placed w h area (is_within area w h) (is_at_corner area)

area_read : (w h : ℕ) (sofar : List Paint) (left : ℕ) (bs : List ℕ) (area : Rect) → length bs ≡ 8 → Spells rect (take 8 bs) area → after (form_of w h sofar (part.Area left)) bs ≡ with_others w h sofar left (judged w h area)
area_read w h sofar left bs area e spells = head_read 8 rect (λ place. with_others w h sofar left (judged w h place)) bs area e spells

pub encoding_next : (w h : ℕ) (start : Canvas) (painter : Painting) (sofar : List Paint) (left : ℕ) (bs : List ℕ) (area : Rect) (fields : HostPart × List ℕ)
    → length bs ≡ 8 → Spells rect (take 8 bs) area → is_within area w h ≡ true → fields ≡ (part.Encoding left area, []) → Holds start painter sofar → InPart w h fields.0 fields.1 start painter (after (form_of w h sofar (part.Area left)) bs)
encoding_next w h start painter sofar left bs area fields e spells ok is holds =
    let r : Reading ServerMessage = after (form_of w h sofar (part.Area left)) bs in
    let reads : r ≡ after (form_of w h sofar (part.Encoding left area)) [] =
    area_read w h sofar left bs area e spells ∙ ap (λ b. with_others w h sofar left (placed w h area b (is_at_corner area))) ok in
    let here : InPart w h (part.Encoding left area) [] start painter r = record { sofar = sofar; holds = holds; suited = tt; missing = omega arith; reads = reads } in
    subst (λ (f : HostPart × List ℕ). InPart w h f.0 f.1 start painter r) (sym is) here

-- Where it leaves the screen and may be a new size, its encoding is read.
pub outside_next : (w h : ℕ) (start : Canvas) (painter : Painting) (sofar : List Paint) (left : ℕ) (bs : List ℕ) (area : Rect) (fields : HostPart × List ℕ)
    → length bs ≡ 8 → Spells rect (take 8 bs) area → is_within area w h ≡ false → is_at_corner area ≡ true → fields ≡ (part.Outside, []) → Holds start painter sofar → InPart w h fields.0 fields.1 start painter (after (form_of w h sofar (part.Area left)) bs)
outside_next w h start painter sofar left bs area fields e spells out corner is holds =
    let r : Reading ServerMessage = after (form_of w h sofar (part.Area left)) bs in
    let reads : r ≡ form_of w h sofar part.Outside =
    area_read w h sofar left bs area e spells ∙ (ap (λ b. with_others w h sofar left (placed w h area b (is_at_corner area))) out
    ∙ (ap (λ b. with_others w h sofar left (placed w h area false b)) corner
    ∙ bind_assoc u32 (λ encoding. Faulty (fault_outside encoding)) (behind w h sofar left))) in
    let here : InPart w h part.Outside [] start painter r = record { sofar = sofar; holds = holds; suited = tt; missing = omega arith; reads = reads } in
    subst (λ (f : HostPart × List ℕ). InPart w h f.0 f.1 start painter r) (sym is) here

pub area_fault : (w h : ℕ) (sofar : List Paint) (left : ℕ) (bs : List ℕ) (area : Rect) → length bs ≡ 8 → Spells rect (take 8 bs) area → is_within area w h ≡ false → is_at_corner area ≡ false → after (form_of w h sofar (part.Area left)) bs ≡ Faulty RectOutside
area_fault w h sofar left bs area e spells out elsewhere =
    area_read w h sofar left bs area e spells ∙ (ap (λ b. with_others w h sofar left (placed w h area b (is_at_corner area))) out
    ∙ ap (λ b. with_others w h sofar left (placed w h area false b)) elsewhere)

-- What a host's messages paint over screens that look alike leaves screens that look alike: whatever is copied lies on
-- the screen. So a player who shows the right picture once goes on to show it.
use Rattle.std.proofs.Common.{◌≡◌, ℕ, zero, suc, ◌+◌, ◌-◌, ◌*◌, ◌<◌, ◌≤◌, Bool, true, false, cond, not, List, [], ◌∷◌, map, refl, ap, arith}
use Rattle.std.specs.Prelude.{◌==◌, nat_le, if◌then◌else◌}
use Rattle.std.specs.List.{filter_map}
use Rattle.std.proofs.lemmas.Bool.{and_parts, leb-true}
use Rattle.std.proofs.lemmas.Bool.Decides.{nat_tests}
use Rattle.pixel_format.specs.PixelFormat.{PixelFormat, host_format}
use Rattle.byte_reading.specs.Reading.{Reading, Done, Faulty, ◌>>=◌, bytes, padding, times, u16, u32, unless, messages, Gives}
use Rattle.byte_reading.proofs.ReadingLaws.{gives_then, gives_bind, gives_if, gives_padding}
use Rattle.fault.specs.declared.kinds.Fault.TheVariants.{CopyOutside, RectOutside}
use Rattle.raster.specs.declared.rect.Rect.{Rect}
use Rattle.raster.specs.declared.encoding.Encoding.TheVariants.{Raw, Rre, Hextile}
use Rattle.raster.specs.Screen.{Canvas, LooksLike, IsWithin, holds, is_within, value_at}
use Rattle.raster.specs.Encoding.{pixels, rect}
use Rattle.raster.specs.Update.{Paint, Put, Copy, Resized, Update, after_paint, after_paints, after_updates, everything, paints_of}
use Rattle.raster.proofs.Spellings.{Each, each_message}
use Rattle.rfb_wire.specs.ClientMessage.{longest_text, desktop_size}
use Rattle.rfb_wire.specs.ServerMessage.{ServerMessage, FramebufferUpdate, SetColorMapEntries, ServerCutText, LostText, copy_rect, data_of, fault_outside, is_at_corner, rectangle, server_message}
use Rattle.rfb_wire.specs.ServerMessage as server
use Rattle.host_decoder.specs.Updates.{in_colours, update_of, updates}

-- what is copied lies on the screen
abbrev pub IsOnScreen : ℕ → ℕ → Paint → Type 0
IsOnScreen w h (Put r values) = Unit {0}
IsOnScreen w h (Copy r sx sy) = IsWithin (record { x = sx; y = sy; w = r.w; h = r.h }) w h
IsOnScreen w h (Resized size) = Unit {0}

inside_x : (r : Rect) (x y : ℕ) → holds r x y ≡ true → (r.x ≤ x) × (x < r.x + r.w)
inside_x r x y e = (grind (arith, nat_tests), grind (arith, nat_tests))

inside_y : (r : Rect) (x y : ℕ) → holds r x y ≡ true → (r.y ≤ y) × (y < r.y + r.h)
inside_y r x y e = (grind (arith, nat_tests), grind (arith, nat_tests))

chosen : (b : Bool) (u v s t : ℕ) → (b ≡ true → u ≡ v) → s ≡ t → cond b u s ≡ cond b v t
chosen true u v s t f e = f refl
chosen false u v s t f e = e

after_one : (w h : ℕ) (a b : Canvas) (p : Paint) → IsOnScreen w h p → LooksLike w h a b → LooksLike w h (after_paint a p) (after_paint b p)
after_one w h a b (Put r colours) on same x y lx ly = ap (λ t. cond (holds r x y) (value_at r.w colours (x - r.x) (y - r.y)) t) (same x y lx ly)
after_one w h a b (Copy r sx sy) on same x y lx ly =
    chosen (holds r x y) (a (sx + (x - r.x)) (sy + (y - r.y))) (b (sx + (x - r.x)) (sy + (y - r.y))) (a x y) (b x y)
    (λ e. same (sx + (x - r.x)) (sy + (y - r.y)) (omega (arith, inside_x r x y e, on.across)) (omega (arith, inside_y r x y e, on.down)))
    (same x y lx ly)
after_one w h a b (Resized size) on same x y lx ly = ap (λ t. cond (holds everything x y) 0 t) (same x y lx ly)

after_all : (w h : ℕ) (a b : Canvas) (ps : List Paint) → Each (IsOnScreen w h) ps → LooksLike w h a b → LooksLike w h (after_paints a ps) (after_paints b ps)
after_all w h a b [] on same = same
after_all w h a b (p ∷ ps) on same = after_all w h (after_paint a p) (after_paint b p) ps on.1 (after_one w h a b p on.0 same)

after_each : (w h : ℕ) (a b : Canvas) (us : List Update) → Each (λ u. Each (IsOnScreen w h) (paints_of u)) us → LooksLike w h a b → LooksLike w h (after_updates a us) (after_updates b us)
after_each w h a b [] on same = same
after_each w h a b (u ∷ us) on same = after_each w h (after_paints a (paints_of u)) (after_paints b (paints_of u)) us on.1 (after_all w h a b (paints_of u) on.0 same)

-- ---- a host's messages are so

abbrev IsOn : ℕ → ℕ → ServerMessage → Type 0
IsOn w h (FramebufferUpdate ps) = Each (IsOnScreen w h) ps
IsOn w h SetColorMapEntries = Unit {0}
IsOn w h server.Bell = Unit {0}
IsOn w h (ServerCutText text) = Unit {0}
IsOn w h (LostText len) = Unit {0}

within : (r : Rect) (w h : ℕ) → is_within r w h ≡ true → IsWithin r w h
within r w h e =
    let both = and_parts (nat_le (r.x + r.w) w) (nat_le (r.y + r.h) h) e in
    record { across = leb-true (r.x + r.w) w both.0; down = leb-true (r.y + r.h) h both.1 }

copy_judged : (w h : ℕ) (area source : Rect) (x y : ℕ) (t : Bool) → (t ≡ true → IsOnScreen w h (Copy area x y)) → Gives (IsOnScreen w h) (unless (not t) CopyOutside (Done (Copy area x y)))
copy_judged w h area source x y true f = f refl
copy_judged w h area source x y false f = tt

copy_gives : (w h : ℕ) (area : Rect) → Gives (IsOnScreen w h) (copy_rect w h area)
copy_gives w h area =
    let judged : ℕ → ℕ → Reading Paint = λ x y. unless (not (is_within (record { x = x; y = y; w = area.w; h = area.h }) w h)) CopyOutside (Done (Copy area x y)) in
    gives_bind (IsOnScreen w h) u16 (λ x. u16 >>= judged x) (λ x. gives_bind (IsOnScreen w h) u16 (judged x) (λ y.
    let source : Rect = record { x = x; y = y; w = area.w; h = area.h } in
    copy_judged w h area source x y (is_within source w h) (within source w h)))

put_gives : (w h : ℕ) (area : Rect) (r : Reading (List ℕ)) → Gives (IsOnScreen w h) (r >>= λ values. Done (Put area values))
put_gives w h area r = gives_bind (IsOnScreen w h) r (λ values. Done (Put area values)) (λ values. tt)

data_gives : (format : PixelFormat) (w h : ℕ) (area : Rect) (encoding : ℕ) → Gives (IsOnScreen w h) (data_of format w h area encoding)
data_gives format w h area encoding =
    gives_if (IsOnScreen w h) (encoding == 0) _ _ (put_gives w h area (pixels Raw format area.w area.h))
    (gives_if (IsOnScreen w h) (encoding == 1) _ _ (copy_gives w h area)
    (gives_if (IsOnScreen w h) (encoding == 2) _ _ (put_gives w h area (pixels Rre format area.w area.h))
    (gives_if (IsOnScreen w h) (encoding == 5) _ _ (put_gives w h area (pixels Hextile format area.w area.h))
    (gives_if (IsOnScreen w h) (encoding == desktop_size) _ _ tt tt))))

rectangle_gives : (format : PixelFormat) (w h : ℕ) → Gives (IsOnScreen w h) (rectangle format w h)
rectangle_gives format w h =
    let inside : Rect → Reading Paint = λ area. u32 >>= λ encoding. data_of format w h area encoding in
    let outside : Rect → Reading Paint = λ area. if is_at_corner area then (u32 >>= λ encoding. Faulty (fault_outside encoding)) else Faulty RectOutside in
    gives_bind (IsOnScreen w h) rect (λ area. if is_within area w h then inside area else outside area) (λ area.
    gives_if (IsOnScreen w h) (is_within area w h) _ _
    (gives_bind (IsOnScreen w h) u32 (λ encoding. data_of format w h area encoding) (λ encoding. data_gives format w h area encoding))
    (gives_if (IsOnScreen w h) (is_at_corner area) _ _ (gives_bind (IsOnScreen w h) u32 (λ encoding. Faulty (fault_outside encoding)) (λ encoding. tt)) tt))

times_give : (w h n : ℕ) (one : Reading Paint) → Gives (IsOnScreen w h) one → Gives (Each (IsOnScreen w h)) (times n one)
times_give w h zero one g = tt
times_give w h (suc n) one g =
    gives_then (IsOnScreen w h) (Each (IsOnScreen w h)) one (λ first. times n one >>= λ others. Done (first ∷ others)) g (λ first on.
    gives_then (Each (IsOnScreen w h)) (Each (IsOnScreen w h)) (times n one) (λ others. Done (first ∷ others)) (times_give w h n one g) (λ others all. (on, all)))

message_gives : (format : PixelFormat) (w h : ℕ) → Gives (IsOn w h) (server_message format w h)
message_gives format w h = λ kind.
    gives_if (IsOn w h) (kind == 0) _ _
    (gives_padding (IsOn w h) 1 (u16 >>= λ count. times count (rectangle format w h) >>= λ paints. Done (FramebufferUpdate paints))
    (gives_bind (IsOn w h) u16 (λ count. times count (rectangle format w h) >>= λ paints. Done (FramebufferUpdate paints))
    (λ count. gives_then (Each (IsOnScreen w h)) (IsOn w h) (times count (rectangle format w h)) (λ paints. Done (FramebufferUpdate paints)) (times_give w h count (rectangle format w h) (rectangle_gives format w h)) (λ paints on. on))))
    (gives_if (IsOn w h) (kind == 1) _ _
    (gives_padding (IsOn w h) 3 (u16 >>= λ count. padding (count * 6) (Done SetColorMapEntries))
    (gives_bind (IsOn w h) u16 (λ count. padding (count * 6) (Done SetColorMapEntries)) (λ count. gives_padding (IsOn w h) (count * 6) (Done SetColorMapEntries) tt)))
    (gives_if (IsOn w h) (kind == 2) _ _ tt
    (gives_if (IsOn w h) (kind == 3) _ _
    (gives_padding (IsOn w h) 3 (u32 >>= λ len. if nat_le len longest_text then (bytes len >>= λ text. Done (ServerCutText text)) else padding len (Done (LostText len)))
    (gives_bind (IsOn w h) u32 (λ len. if nat_le len longest_text then (bytes len >>= λ text. Done (ServerCutText text)) else padding len (Done (LostText len))) (λ len. text_gives len (nat_le len longest_text))))
    tt)))
  where
    text_gives : (len : ℕ) (t : Bool) → Gives (IsOn w h) (cond t (bytes len >>= λ text. Done (ServerCutText text)) (padding len (Done (LostText len))))
    text_gives len true = gives_bind (IsOn w h) (bytes len) (λ text. Done (ServerCutText text)) (λ text. tt)
    text_gives len false = gives_padding (IsOn w h) len (Done (LostText len)) tt

coloured : (w h : ℕ) (ps : List Paint) → Each (IsOnScreen w h) ps → Each (IsOnScreen w h) (map in_colours ps)
coloured w h [] on = tt
coloured w h (Put r values ∷ ps) on = (tt, coloured w h ps on.1)
coloured w h (Copy r sx sy ∷ ps) on = (on.0, coloured w h ps on.1)
coloured w h (Resized size ∷ ps) on = (tt, coloured w h ps on.1)

updates_on : (w h : ℕ) (ms : List ServerMessage) → Each (IsOn w h) ms → Each (λ u. Each (IsOnScreen w h) (paints_of u)) (filter_map update_of ms)
updates_on w h [] on = tt
updates_on w h (FramebufferUpdate ps ∷ ms) on = (coloured w h ps on.0, updates_on w h ms on.1)
updates_on w h (SetColorMapEntries ∷ ms) on = updates_on w h ms on.1
updates_on w h (server.Bell ∷ ms) on = (tt, updates_on w h ms on.1)
updates_on w h (ServerCutText text ∷ ms) on = (tt, updates_on w h ms on.1)
updates_on w h (LostText len ∷ ms) on = updates_on w h ms on.1

pub stay_alike : (w h : ℕ) (a b : Canvas) (stream : List ℕ) → LooksLike w h a b → LooksLike w h (after_updates a (updates w h stream)) (after_updates b (updates w h stream))
stay_alike w h a b stream same =
    let form = server_message host_format w h in
    let all = each_message (IsOn w h) form form stream (message_gives host_format w h) (message_gives host_format w h) in
    after_each w h a b (updates w h stream) (updates_on w h (messages form stream) all) same

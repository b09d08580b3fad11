-- Bytes that are wanted. A step waits until they have come, and no longer.
use Rattle.std.proofs.Common.{◌≡◌, ℕ, zero, suc, ◌+◌, ◌-◌, ◌*◌, ◌<◌, ◌≤◌, Bool, true, false, cond, List, ◌∷◌, length, Option, arith}
use Rattle.std.specs.Prelude.{if◌then◌else◌, ◌==◌, unwrap_or}
use Rattle.std.specs.Int.{w8, w16, w32, byte_len}
use Rattle.pixel_format.specs.PixelFormat.{PixelFormat, pixel_len}
use Rattle.byte_reading.specs.Reading.{Reading, Done, ◌>>=◌, byte, times, after, taken, wants_more}
use Rattle.raster.specs.declared.rect.Rect.{Rect}
use Rattle.raster.specs.Screen.{tile_count, tile_rect}
use Rattle.raster.specs.Encoding.{Carried, Tile, Drawn, has_bit, pixel, specified, subrect_value, hextile_subrect, drawn_tile}
use Rattle.raster.proofs.FixedLength.{Exactly, Needs, needs_first, needs_both, needs_after, needs_wants, needs_takes, exactly_needs, exactly_pixel, exactly_then}
use Rattle.hextile_codec.specs.declared.stage.Stage.{Stage}
use Rattle.hextile_codec.specs.declared.stage.Stage.TheVariants.{Mask, RawPixels, Head, Subrects, Failed}
use Rattle.hextile_codec.specs.Ahead.{Part, Sofar, IsReady, is_failed, tile_rest, next_form, others_behind, needed, head_len, colour_len}
use Rattle.hextile_codec.proofs.Behind.{in_tile}

-- ---- what is needed

exactly_colour : (format : PixelFormat) (given : Bool) (carried : Option ℕ) → Exactly (colour_len format given) (specified format given carried)
exactly_colour format true carried = exactly_then (pixel_len format) (pixel format) (λ value. Done (Option.Some value)) (exactly_pixel format) (λ value. tt)
exactly_colour format false carried = tt

exactly_value : (format : PixelFormat) (coloured : Bool) (foreground : ℕ) → Exactly (colour_len format coloured) (subrect_value format coloured foreground)
exactly_value format true foreground = exactly_pixel format
exactly_value format false foreground = tt

needs_count : {B : Type 0} (any : Bool) (next : ℕ → Reading B) → Needs (if any then 1 else 0) ((if any then byte else Done 0) >>= next)
needs_count true next = λ b. tt
needs_count false next = tt

head_needs : (format : PixelFormat) (mask : ℕ) (carried : Carried) (w h : ℕ) → Needs (head_len format mask) (drawn_tile format mask carried w h)
head_needs format mask carried w h =
    let subrects : Option ℕ → Option ℕ → ℕ → Reading (Tile × Carried) =
    λ b f count. times count (hextile_subrect format (has_bit mask 4) (unwrap_or f 0) w h) >>= λ ss. Done (Drawn (record { background = unwrap_or b 0; subrects = ss }), record { background = b; foreground = f }) in
    let counted : Option ℕ → Option ℕ → Reading (Tile × Carried) = λ b f. (if has_bit mask 3 then byte else Done 0) >>= subrects b f in
    let second : Option ℕ → Reading (Tile × Carried) = λ b. specified format (has_bit mask 2) carried.foreground >>= counted b in
    let n : ℕ = colour_len format (has_bit mask 1) in
    let m : ℕ = colour_len format (has_bit mask 2) in
    let k : ℕ = if has_bit mask 3 then 1 else 0 in
    let sum : n + (m + k) ≡ n + m + k = omega arith in
    rw sum at
    (needs_both n (m + k) (specified format (has_bit mask 1) carried.background) second (exactly_colour format (has_bit mask 1) carried.background)
    (λ b. needs_both m k (specified format (has_bit mask 2) carried.foreground) (counted b) (exactly_colour format (has_bit mask 2) carried.foreground) (λ f. needs_count (has_bit mask 3) (subrects b f))))

subrect_needs : (format : PixelFormat) (coloured : Bool) (foreground w h : ℕ) → Needs (colour_len format coloured + 2) (hextile_subrect format coloured foreground w h)
subrect_needs format coloured foreground w h =
    needs_both (colour_len format coloured) 2 (subrect_value format coloured foreground) _ (exactly_value format coloured foreground) (λ value. λ a b. tt)

first_needs : {A B : Type 0} (n count : ℕ) (one : Reading A) (end : List A → Reading B) → 0 < count → Needs n one → Needs n (times count one >>= end)
first_needs n zero one end lt h = absurd (omega (arith, lt))
first_needs n (suc count) one end lt h = needs_first n (one >>= λ x. times count one >>= λ others. Done (x ∷ others)) end (needs_first n one (λ x. times count one >>= λ others. Done (x ∷ others)) h)

rest_needs : (format : PixelFormat) (area : Rect) (carried : Carried) (stage : Stage) (part : Part) → IsReady format area stage → is_failed stage ≡ false → Needs (needed format stage) (tile_rest format area.w area.h carried stage part)
rest_needs format area carried Mask part ready fine = λ b. tt
rest_needs format area carried (RawPixels count) part ready fine = first_needs (pixel_len format) (area.w * area.h - count) (pixel format) _ (omega (arith, ready)) (exactly_needs (pixel_len format) (pixel format) (exactly_pixel format))
rest_needs format area carried (Head mask) part ready fine = head_needs format mask carried area.w area.h
rest_needs format area carried (Subrects coloured left) part ready fine =
    first_needs (colour_len format coloured + 2) left (hextile_subrect format coloured (unwrap_or carried.foreground 0) area.w area.h) _ ready (subrect_needs format coloured (unwrap_or carried.foreground 0) area.w area.h)
rest_needs format area carried (Failed flaw) part ready fine = absurd cc

pub form_needs : (format : PixelFormat) (w h k : ℕ) (carried : Carried) (stage : Stage) (sofar : Sofar) → k < tile_count w h → IsReady format (tile_rect w h k) stage → is_failed stage ≡ false
    → Needs (needed format stage) (next_form format w h k carried stage sofar)
form_needs format w h k carried stage sofar lt ready fine =
    rw (in_tile format w h k carried stage sofar lt)
    (needs_first (needed format stage) (tile_rest format (tile_rect w h k).w (tile_rect w h k).h carried stage sofar.part) (others_behind format w h k sofar.tiles) (rest_needs format (tile_rect w h k) carried stage sofar.part ready fine))

-- ---- how much that is at most

few : (eight sixteen : Bool) → byte_len (cond eight w8 (cond sixteen w16 w32)) ≤ 4
few true sixteen = omega arith
few false true = omega arith
few false false = omega arith

pixel_few : (format : PixelFormat) → pixel_len format ≤ 4
pixel_few format = few (format.bits_per_pixel == 8) (format.bits_per_pixel == 16)

colour_few : (format : PixelFormat) (given : Bool) → colour_len format given ≤ 4
colour_few format true = pixel_few format
colour_few format false = omega arith

count_few : (any : Bool) → (if any then 1 else 0) ≤ 1
count_few true = omega arith
count_few false = omega arith

pub needs_few : (format : PixelFormat) (stage : Stage) → needed format stage ≤ 9
needs_few format Mask = omega arith
needs_few format (RawPixels count) = omega (arith, pixel_few format)
needs_few format (Head mask) = omega (arith, colour_few format (has_bit mask 1), colour_few format (has_bit mask 2), count_few (has_bit mask 3))
needs_few format (Subrects coloured left) = omega (arith, colour_few format coloured)
needs_few format (Failed flaw) = omega arith

-- ---- what has begun

pub begun_wants : {A : Type 0} (n : ℕ) (form : Reading A) (begun : List ℕ) → Needs n form → length begun < n → wants_more (after form begun) ≡ true
begun_wants n form begun needs lt = needs_wants (n - length begun) (after form begun) (needs_after n (n - length begun) form begun needs (omega arith)) (omega arith)

pub begun_takes : {A : Type 0} (n : ℕ) (form : Reading A) (begun more : List ℕ) → Needs n form → length begun + length more ≤ n → taken (after form begun) more ≡ length more
begun_takes n form begun more needs le = needs_takes (n - length begun) (after form begun) more (needs_after n (n - length begun) form begun needs (omega arith)) (omega arith)

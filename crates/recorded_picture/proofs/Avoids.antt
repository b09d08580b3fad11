-- No bytes of a host are at fault as `LinkEnded`: that is a fault of links alone. So where reading a host ends so, its
-- link ended.
use Rattle.std.proofs.Common.{◌≡◌, ◌≢◌, ℕ, zero, suc, ◌+◌, ◌*◌, ◌/◌, ◌%◌, Bool, true, false, not, ◌==◌, if◌then◌else◌, nat_le, List, [], ◌∷◌, Option, unwrap_or, refl, subst}
use Rattle.pixel_format.specs.PixelFormat.{PixelFormat, pixel_len, host_format}
use Rattle.byte_reading.specs.Reading.{Reading, Done, Faulty, Want, ◌>>=◌, byte, bytes, padding, u16, u32, times, unless, step, renewed, rest_from, rest}
use Rattle.fault.specs.declared.kinds.Fault.{Fault}
use Rattle.fault.specs.declared.kinds.Fault.TheVariants.{LinkEnded, BadScreen, RectOutside, CopyOutside, SubrectOutside, NoBackground, NoForeground, UnknownEncoding, UnknownMessage}
use Rattle.raster.specs.declared.rect.Rect.{Rect}
use Rattle.raster.specs.declared.encoding.Encoding.{Encoding}
use Rattle.raster.specs.declared.encoding.Encoding.TheVariants.{Raw, Rre, Hextile}
use Rattle.raster.specs.Update.{Paint, Put, Copy, Resized}
use Rattle.raster.specs.Screen.{is_within, tile_count, tile_rect}
use Rattle.raster.specs.Encoding.{Carried, Subrect, Drawing, Tile, Pixels, lacks_background, lacks_foreground, pixel, rect, raw, rre, rre_subrect, specified, subrect_value, hextile_subrect, drawn_tile, tile, tiles_from, hextile, pixels, has_bit, nothing_carried}
use Rattle.rfb_wire.specs.ClientMessage.{desktop_size, longest_text, text}
use Rattle.rfb_wire.specs.ServerMessage.{ServerMessage, FramebufferUpdate, SetColorMapEntries, Bell, is_at_corner, ServerCutText, LostText, copy_rect, data_of, fault_outside, rectangle, framebuffer_update, set_color_map_entries, fields_of, server_message}

-- whatever bytes come, reading isn't at fault so
abbrev pub Avoids : {A : Type 0} → Reading A → Type 0
Avoids (Done x) = Unit {0}
Avoids (Faulty fault) = fault ≢ LinkEnded
Avoids (Want more) = (b : ℕ) → Avoids (more b)

-- what the faults of a host's bytes are not
screen_is_not : BadScreen ≢ LinkEnded
screen_is_not = λ e. cc

area_is_not : RectOutside ≢ LinkEnded
area_is_not = λ e. cc

source_is_not : CopyOutside ≢ LinkEnded
source_is_not = λ e. cc

subrect_is_not : SubrectOutside ≢ LinkEnded
subrect_is_not = λ e. cc

background_is_not : NoBackground ≢ LinkEnded
background_is_not = λ e. cc

foreground_is_not : NoForeground ≢ LinkEnded
foreground_is_not = λ e. cc

encoding_is_not : UnknownEncoding ≢ LinkEnded
encoding_is_not = λ e. cc

message_is_not : (kind : ℕ) → UnknownMessage kind ≢ LinkEnded
message_is_not kind = λ e. cc

-- one thing and then another
then_avoids : {A B : Type 0} (r : Reading A) (next : A → Reading B) → Avoids r → ((x : A) → Avoids (next x)) → Avoids (r >>= next)
then_avoids (Done x) next a b = b x
then_avoids (Faulty fault) next a b = a
then_avoids (Want more) next a b = λ k. then_avoids (more k) next (a k) b

bytes_avoid : (n : ℕ) → Avoids (bytes n)
bytes_avoid zero = tt
bytes_avoid (suc n) = λ b. then_avoids (bytes n) (λ others. Done (b ∷ others)) (bytes_avoid n) (λ x. tt)

padding_avoids : {A : Type 0} (n : ℕ) (r : Reading A) → Avoids r → Avoids (padding n r)
padding_avoids zero r a = a
padding_avoids (suc n) r a = λ b. padding_avoids n r a

u16_avoids : Avoids u16
u16_avoids = λ a b. tt

u32_avoids : Avoids u32
u32_avoids = λ a b c d. tt

times_avoid : {A : Type 0} (n : ℕ) (one : Reading A) → Avoids one → Avoids (times n one)
times_avoid zero one a = tt
times_avoid (suc n) one a = then_avoids one _ a (λ first. then_avoids (times n one) _ (times_avoid n one a) (λ others. tt))

unless_avoids : {A : Type 0} (c : Bool) (fault : Fault) (r : Reading A) → fault ≢ LinkEnded → Avoids r → Avoids (unless c fault r)
unless_avoids true fault r f a = f
unless_avoids false fault r f a = a

if_avoids : {A : Type 0} (c : Bool) (r s : Reading A) → Avoids r → Avoids s → Avoids (if c then r else s)
if_avoids true r s a b = a
if_avoids false r s a b = b

-- ---- pixels

pixel_avoids : (format : PixelFormat) → Avoids (pixel format)
pixel_avoids format = then_avoids (bytes (pixel_len format)) _ (bytes_avoid (pixel_len format)) (λ field. tt)

rect_avoids : Avoids rect
rect_avoids = λ a b c d e f g h. tt

raw_avoids : (format : PixelFormat) (w h : ℕ) → Avoids (raw format w h)
raw_avoids format w h = times_avoid _ (pixel format) (pixel_avoids format)

rre_subrect_avoids : (format : PixelFormat) (w h : ℕ) → Avoids (rre_subrect format w h)
rre_subrect_avoids format w h =
    let judged : ℕ → Rect → Reading Subrect = λ value area. unless (not (is_within area w h)) SubrectOutside (Done (record { value = value; area = area })) in
    then_avoids (pixel format) (λ value. rect >>= judged value) (pixel_avoids format) (λ value. then_avoids rect (judged value) rect_avoids (λ area.
    unless_avoids (not (is_within area w h)) SubrectOutside (Done (record { value = value; area = area })) subrect_is_not tt))

rre_avoids : (format : PixelFormat) (w h : ℕ) → Avoids (rre format w h)
rre_avoids format w h =
    let drawing : ℕ → List Subrect → Reading Drawing = λ background subrects. Done (record { background = background; subrects = subrects }) in
    let ones : ℕ → Reading (List Subrect) = λ count. times count (rre_subrect format w h) in
    then_avoids u32 (λ count. pixel format >>= λ background. ones count >>= drawing background) u32_avoids (λ count.
    then_avoids (pixel format) (λ background. ones count >>= drawing background) (pixel_avoids format) (λ background.
    then_avoids (ones count) (drawing background) (times_avoid count (rre_subrect format w h) (rre_subrect_avoids format w h)) (λ subrects. tt)))

specified_avoids : (format : PixelFormat) (b : Bool) (carried : Option ℕ) → Avoids (specified format b carried)
specified_avoids format true carried = then_avoids (pixel format) _ (pixel_avoids format) (λ value. tt)
specified_avoids format false carried = tt

subrect_value_avoids : (format : PixelFormat) (b : Bool) (foreground : ℕ) → Avoids (subrect_value format b foreground)
subrect_value_avoids format true foreground = pixel_avoids format
subrect_value_avoids format false foreground = tt

hextile_subrect_avoids : (format : PixelFormat) (b : Bool) (foreground w h : ℕ) → Avoids (hextile_subrect format b foreground w h)
hextile_subrect_avoids format b foreground w h =
    let area : ℕ → ℕ → Rect = λ position size. record { x = position / 16; y = position % 16; w = size / 16 + 1; h = size % 16 + 1 } in
    then_avoids (subrect_value format b foreground) _ (subrect_value_avoids format b foreground) (λ value position size.
    unless_avoids {A = Subrect} (not (is_within (area position size) w h)) SubrectOutside (Done (record { value = value; area = area position size })) subrect_is_not tt)

drawn_tile_avoids : (format : PixelFormat) (mask : ℕ) (carried : Carried) (w h : ℕ) → Avoids (drawn_tile format mask carried w h)
drawn_tile_avoids format mask carried w h =
    then_avoids (specified format (has_bit mask 1) carried.background) _ (specified_avoids format (has_bit mask 1) carried.background) (λ background.
    then_avoids (specified format (has_bit mask 2) carried.foreground) _ (specified_avoids format (has_bit mask 2) carried.foreground) (λ foreground.
    then_avoids (if has_bit mask 3 then byte else Done 0) _ (if_avoids (has_bit mask 3) byte (Done 0) (λ b. tt) tt) (λ count.
    then_avoids (times count (hextile_subrect format (has_bit mask 4) (unwrap_or foreground 0) w h)) _
    (times_avoid count (hextile_subrect format (has_bit mask 4) (unwrap_or foreground 0) w h) (hextile_subrect_avoids format (has_bit mask 4) (unwrap_or foreground 0) w h)) (λ subrects. tt))))

tile_avoids : (format : PixelFormat) (carried : Carried) (w h : ℕ) → Avoids (tile format carried w h)
tile_avoids format carried w h =
    let shown : List ℕ → Reading (Tile × Carried) = λ values. Done (Pixels values, carried) in
    let drawn : ℕ → Reading (Tile × Carried) = λ mask. unless (lacks_foreground mask carried) NoForeground (drawn_tile format mask carried w h) in
    λ mask. if_avoids (has_bit mask 0) (times (w * h) (pixel format) >>= shown) (unless (lacks_background mask carried) NoBackground (drawn mask))
    (then_avoids (times (w * h) (pixel format)) shown (times_avoid (w * h) (pixel format) (pixel_avoids format)) (λ values. tt))
    (unless_avoids (lacks_background mask carried) NoBackground (drawn mask) background_is_not (unless_avoids (lacks_foreground mask carried) NoForeground (drawn_tile format mask carried w h) foreground_is_not (drawn_tile_avoids format mask carried w h)))

tiles_avoid : (format : PixelFormat) (w h : ℕ) (carried : Carried) (k n : ℕ) → Avoids (tiles_from format w h carried k n)
tiles_avoid format w h carried k zero = tt
tiles_avoid format w h carried k (suc n) =
    then_avoids (tile format carried (tile_rect w h k).w (tile_rect w h k).h) _ (tile_avoids format carried (tile_rect w h k).w (tile_rect w h k).h) (λ first.
    then_avoids (tiles_from format w h first.1 (k + 1) n) _ (tiles_avoid format w h first.1 (k + 1) n) (λ others. tt))

pixels_avoid : (encoding : Encoding) (format : PixelFormat) (w h : ℕ) → Avoids (pixels encoding format w h)
pixels_avoid Raw format w h = raw_avoids format w h
pixels_avoid Rre format w h = then_avoids (rre format w h) _ (rre_avoids format w h) (λ drawing. tt)
pixels_avoid Hextile format w h = then_avoids (hextile format w h) _ (tiles_avoid format w h nothing_carried 0 (tile_count w h)) (λ tiles. tt)

-- ---- messages

copy_avoids : (w h : ℕ) (area : Rect) → Avoids (copy_rect w h area)
copy_avoids w h area =
    let judged : ℕ → ℕ → Reading Paint = λ x y. unless (not (is_within (record { x = x; y = y; w = area.w; h = area.h }) w h)) CopyOutside (Done (Copy area x y)) in
    then_avoids u16 (λ x. u16 >>= judged x) u16_avoids (λ x. then_avoids u16 (judged x) u16_avoids (λ y.
    unless_avoids (not (is_within (record { x = x; y = y; w = area.w; h = area.h }) w h)) CopyOutside (Done (Copy area x y)) source_is_not tt))

outside_avoids : (encoding : ℕ) → fault_outside encoding ≢ LinkEnded
outside_avoids encoding = elim (encoding == desktop_size) as (λ t. (if t then BadScreen else RectOutside) ≢ LinkEnded) [ true ↦ screen_is_not | false ↦ area_is_not ]

data_avoids : (format : PixelFormat) (w h : ℕ) (area : Rect) (encoding : ℕ) → Avoids (data_of format w h area encoding)
data_avoids format w h area encoding =
    let put : List ℕ → Reading Paint = λ values. Done (Put area values) in
    let of_pixels : Encoding → Reading Paint = λ kind. pixels kind format area.w area.h >>= put in
    let of_pixels_avoids : (kind : Encoding) → Avoids (of_pixels kind) = λ kind. then_avoids (pixels kind format area.w area.h) put (pixels_avoid kind format area.w area.h) (λ values. tt) in
    let resized : Reading Paint = Done (Resized (record { width = area.w; height = area.h })) in
    let from_size : Reading Paint = if encoding == desktop_size then resized else Faulty UnknownEncoding in
    let from_hextile : Reading Paint = if encoding == 5 then of_pixels Hextile else from_size in
    let from_rre : Reading Paint = if encoding == 2 then of_pixels Rre else from_hextile in
    let from_copy : Reading Paint = if encoding == 1 then copy_rect w h area else from_rre in
    if_avoids (encoding == 0) (of_pixels Raw) from_copy (of_pixels_avoids Raw)
    (if_avoids (encoding == 1) (copy_rect w h area) from_rre (copy_avoids w h area)
    (if_avoids (encoding == 2) (of_pixels Rre) from_hextile (of_pixels_avoids Rre)
    (if_avoids (encoding == 5) (of_pixels Hextile) from_size (of_pixels_avoids Hextile)
    (if_avoids (encoding == desktop_size) resized (Faulty UnknownEncoding) tt encoding_is_not))))

rectangle_avoids : (format : PixelFormat) (w h : ℕ) → Avoids (rectangle format w h)
rectangle_avoids format w h =
    let inside : Rect → Reading Paint = λ area. u32 >>= λ encoding. data_of format w h area encoding in
    let at_fault : ℕ → Reading Paint = λ encoding. Faulty (fault_outside encoding) in
    let outside : Reading Paint = u32 >>= at_fault in
    let judged : Rect → Reading Paint = λ area. if is_at_corner area then outside else Faulty RectOutside in
    then_avoids rect (λ area. if is_within area w h then inside area else judged area) rect_avoids (λ area.
    if_avoids (is_within area w h) (inside area) (judged area) (then_avoids u32 (λ encoding. data_of format w h area encoding) u32_avoids (data_avoids format w h area))
    (if_avoids (is_at_corner area) outside (Faulty RectOutside) (then_avoids u32 at_fault u32_avoids outside_avoids) area_is_not))

text_avoids : {A : Type 0} (kept : List ℕ → A) (lost : ℕ → A) → Avoids (text kept lost)
text_avoids {A} kept lost =
    let short : ℕ → Reading A = λ len. bytes len >>= λ t. Done (kept t) in
    let long : ℕ → Reading A = λ len. padding len (Done (lost len)) in
    padding_avoids 3 (u32 >>= λ len. if nat_le len longest_text then short len else long len)
    (then_avoids u32 (λ len. if nat_le len longest_text then short len else long len) u32_avoids (λ len. if_avoids (nat_le len longest_text) (short len) (long len)
    (then_avoids (bytes len) (λ t. Done (kept t)) (bytes_avoid len) (λ t. tt)) (padding_avoids len (Done (lost len)) tt)))

fields_avoid : (format : PixelFormat) (w h kind : ℕ) → Avoids (fields_of format w h kind)
fields_avoid format w h kind =
    let paints : ℕ → Reading (List Paint) = λ count. times count (rectangle format w h) in
    let update : List Paint → Reading ServerMessage = λ ps. Done (FramebufferUpdate ps) in
    let from_text : Reading ServerMessage = if kind == 3 then text ServerCutText LostText else Faulty (UnknownMessage kind) in
    let from_bell : Reading ServerMessage = if kind == 2 then Done Bell else from_text in
    let from_map : Reading ServerMessage = if kind == 1 then set_color_map_entries else from_bell in
    if_avoids (kind == 0) (framebuffer_update format w h) from_map
    (padding_avoids 1 (u16 >>= λ count. paints count >>= update) (then_avoids u16 (λ count. paints count >>= update) u16_avoids (λ count.
    then_avoids (paints count) update (times_avoid count (rectangle format w h) (rectangle_avoids format w h)) (λ ps. tt))))
    (if_avoids (kind == 1) set_color_map_entries from_bell
    (padding_avoids 3 (u16 >>= λ count. padding (count * 6) (Done SetColorMapEntries)) (then_avoids u16 (λ count. padding (count * 6) (Done SetColorMapEntries)) u16_avoids (λ count. padding_avoids (count * 6) (Done SetColorMapEntries) tt)))
    (if_avoids (kind == 2) (Done Bell) from_text tt
    (if_avoids (kind == 3) (text ServerCutText LostText) (Faulty (UnknownMessage kind)) (text_avoids ServerCutText LostText) (message_is_not kind))))

message_avoids : (format : PixelFormat) (w h : ℕ) → Avoids (server_message format w h)
message_avoids format w h = λ kind. fields_avoid format w h kind

-- ---- a stream

step_avoids : {A : Type 0} (r : Reading A) (b : ℕ) → Avoids r → Avoids (step r b)
step_avoids (Done x) b a = tt
step_avoids (Faulty fault) b a = a
step_avoids (Want more) b a = a b

renewed_avoids : {A : Type 0} (form r : Reading A) → Avoids form → Avoids r → Avoids (renewed form r)
renewed_avoids form (Done x) f a = f
renewed_avoids form (Faulty fault) f a = a
renewed_avoids form (Want more) f a = a

rest_avoids : {A : Type 0} (form now : Reading A) (stream : List ℕ) → Avoids form → Avoids now → Avoids (rest_from form now stream)
rest_avoids form now [] f a = a
rest_avoids form now (b ∷ stream) f a = rest_avoids form (renewed form (step now b)) stream f (renewed_avoids form (step now b) f (step_avoids now b a))

at_fault : {A : Type 0} (r : Reading A) → Avoids r → r ≡ Faulty LinkEnded → ⊥
at_fault r a e = let P : Reading _ → Type 0 = Avoids in subst P e a refl

-- a host's bytes aren't at fault as a link that ended is
pub no_link_ended : (w h : ℕ) (stream : List ℕ) → rest (server_message host_format w h) stream ≡ Faulty LinkEnded → ⊥
no_link_ended w h stream = at_fault (rest (server_message host_format w h) stream) (rest_avoids (server_message host_format w h) (server_message host_format w h) stream (message_avoids host_format w h) (message_avoids host_format w h))

-- The updates of hosts: their colours have 24 bits, so a screen in the host's format shows them as they are, and their
-- texts are short.
use Rattle.std.proofs.Common.{◌≡◌, ℕ, zero, suc, ◌+◌, ◌*◌, ◌-◌, ◌^◌, ◌<◌, Bool, true, false, cond, List, [], ◌∷◌, ◌++◌, map, take, ap, ◌∙◌, subst, arith}
use Rattle.std.specs.Prelude.{slice_index}
use Rattle.std.specs.List.{filter_map}
use Rattle.pixel_format.specs.PixelFormat.{host_format, tint}
use Rattle.pixel_format.proofs.ScalingLemmas.{tint_of_host}
use Rattle.byte_reading.specs.Reading.{messages}
use Rattle.raster.specs.Colours.{colour_of}
use Rattle.raster.specs.Screen.{Canvas, holds, opening, value_at}
use Rattle.raster.specs.Switch.{switch}
use Rattle.raster.specs.Update.{Paint, Put, Copy, Resized, Update, after_paint, after_paints, after_updates, everything, paints_of, screen}
use Rattle.raster.proofs.Spellings.{Each, each_append}
use Rattle.reflect_core.specs.Sequential.{Begins}
use Rattle.rfb_wire.specs.ServerMessage.{ServerMessage, FramebufferUpdate, SetColorMapEntries, Bell, ServerCutText, LostText}
use Rattle.rfb_wire.specs.Texts.{BringsShortText}
use Rattle.host_decoder.specs.Decoder.{host_message}
use Rattle.host_decoder.specs.Hosts.{ended_updates, updates_in_turn}
use Rattle.host_decoder.specs.Updates.{in_colours, update_of, updates}
use Rattle.host_decoder.proofs.ShortUpdates.{each_begins, turn_short}
use Rattle.viewer_session.proofs.Streams.{each_take}

-- ---- colours of 24 bits

abbrev Shows24 : Canvas → Type 0
Shows24 canvas = (x y : ℕ) → canvas x y < 2 ^ 24

abbrev Has24 : Paint → Type 0
Has24 (Put r values) = (k : ℕ) → slice_index values k < 2 ^ 24
Has24 (Copy r sx sy) = Unit {0}
Has24 (Resized size) = Unit {0}

abbrev pub Brings24 : Update → Type 0
Brings24 u = Each Has24 (paints_of u)

below_if : (b : Bool) (here there : ℕ) → here < 2 ^ 24 → there < 2 ^ 24 → cond b here there < 2 ^ 24
below_if true here there k l = k
below_if false here there k l = l

paint_keeps : (canvas : Canvas) (p : Paint) → Has24 p → Shows24 canvas → Shows24 (after_paint canvas p)
paint_keeps canvas (Put r values) k l x y = below_if (holds r x y) (value_at r.w values (x - r.x) (y - r.y)) (canvas x y) (k ((y - r.y) * r.w + (x - r.x))) (l x y)
paint_keeps canvas (Copy r sx sy) k l x y = below_if (holds r x y) (canvas (sx + (x - r.x)) (sy + (y - r.y))) (canvas x y) (l (sx + (x - r.x)) (sy + (y - r.y))) (l x y)
paint_keeps canvas (Resized size) k l x y = below_if (holds everything x y) 0 (canvas x y) (omega arith) (l x y)

paints_keep : (canvas : Canvas) (ps : List Paint) → Each Has24 ps → Shows24 canvas → Shows24 (after_paints canvas ps)
paints_keep canvas [] k l = l
paints_keep canvas (p ∷ ps) k l = paints_keep (after_paint canvas p) ps k.1 (paint_keeps canvas p k.0 l)

updates_keep : (canvas : Canvas) (us : List Update) → Each Brings24 us → Shows24 canvas → Shows24 (after_updates canvas us)
updates_keep canvas [] k l = l
updates_keep canvas (u ∷ us) k l = updates_keep (after_paints canvas (paints_of u)) us k.1 (paints_keep canvas (paints_of u) k.0 l)

-- ---- those of a host

colour_below : (value : ℕ) → colour_of value < 2 ^ 24
colour_below value = omega arith

in_colours_below : (values : List ℕ) (k : ℕ) → slice_index (map colour_of values) k < 2 ^ 24
in_colours_below [] k = omega arith
in_colours_below (v ∷ values) zero = colour_below v
in_colours_below (v ∷ values) (suc k) = in_colours_below values k

paint_24 : (p : Paint) → Has24 (in_colours p)
paint_24 (Put r values) = in_colours_below values
paint_24 (Copy r sx sy) = tt
paint_24 (Resized size) = tt

paints_24 : (ps : List Paint) → Each Has24 (map in_colours ps)
paints_24 [] = tt
paints_24 (p ∷ ps) = (paint_24 p, paints_24 ps)

messages_24 : (ms : List ServerMessage) → Each Brings24 (filter_map update_of ms)
messages_24 [] = tt
messages_24 (FramebufferUpdate ps ∷ ms) = (paints_24 ps, messages_24 ms)
messages_24 (SetColorMapEntries ∷ ms) = messages_24 ms
messages_24 (Bell ∷ ms) = (tt, messages_24 ms)
messages_24 (ServerCutText text ∷ ms) = (tt, messages_24 ms)
messages_24 (LostText len ∷ ms) = messages_24 ms

ended_24 : (w h : ℕ) (ended : List (List ℕ)) → Each Brings24 (ended_updates w h ended)
ended_24 w h [] = tt
ended_24 w h (first ∷ ended) =
    each_append Brings24 (updates w h first ++ switch w h ∷ []) (ended_updates w h ended)
    (each_append Brings24 (updates w h first) (switch w h ∷ []) (messages_24 (messages (host_message w h) first)) ((tt, tt), tt)) (ended_24 w h ended)

-- ---- the first of them

pub first_short : (w h : ℕ) (ended : List (List ℕ)) (present : List ℕ) (us : List Update) → Begins us (updates_in_turn w h ended present) → Each BringsShortText us
first_short w h ended present us first =
    each_begins BringsShortText us first.0 (subst (Each BringsShortText) first.1 (turn_short w h ended present))

first_24 : (w h : ℕ) (ended : List (List ℕ)) (present : List ℕ) (us : List Update) → Begins us (updates_in_turn w h ended present) → Each Brings24 us
first_24 w h ended present us first =
    each_begins Brings24 us first.0
    (subst (Each Brings24) first.1 (each_append Brings24 (ended_updates w h ended) (updates w h present) (ended_24 w h ended) (messages_24 (messages (host_message w h) present))))

-- ---- in the host's format

own_colour : (colour : ℕ) → colour < 2 ^ 24 → colour_of (tint host_format colour) ≡ colour
own_colour colour lt = ap colour_of (tint_of_host colour) ∙ omega (arith, lt)

-- A position of their screen has the colour of its pixel value.
pub pixel_is_colour : (w h : ℕ) (ended : List (List ℕ)) (present : List ℕ) (us : List Update) (n x y : ℕ) → Begins us (updates_in_turn w h ended present) → colour_of (tint host_format (screen (take n us) x y)) ≡ screen (take n us) x y
pixel_is_colour w h ended present us n x y first =
    own_colour (screen (take n us) x y) (updates_keep opening (take n us) (each_take Brings24 n us (first_24 w h ended present us first)) (λ x_ y_. omega arith) x y)

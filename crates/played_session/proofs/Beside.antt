-- A viewer and a decoder that read the same bytes. The law `viewers_and_decoders_read_alike` is made of it, and the
-- other law of it, message by message.
use Rattle.std.proofs.Common.{◌≡◌, ℕ, zero, suc, ◌+◌, ◌*◌, ◌-◌, Bool, true, false, cond, List, [], ◌∷◌, ◌++◌, map, Option, Some, refl, sym, ap, ◌∙◌, subst, append_assoc, append-nil}
use Rattle.std.specs.Prelude.{slice_index}
use Rattle.std.specs.List.{filter_map}
use Rattle.pixel_format.specs.PixelFormat.{host_format}
use Rattle.byte_reading.specs.Reading.{Reading, Done, Faulty, Want, step, finished, renewed, messages_from, rest_from}
use Rattle.raster.specs.Colours.{colour_of}
use Rattle.raster.specs.Screen.{Canvas, Map, holds, opening, value_at}
use Rattle.raster.specs.Update.{Paint, Put, Copy, Resized, after_paint, after_paints, after_updates}
use Rattle.rfb_wire.specs.ServerMessage.{ServerMessage, FramebufferUpdate, SetColorMapEntries, Bell, ServerCutText, LostText}
use Rattle.host_decoder.specs.Decoder.{host_message}
use Rattle.host_decoder.specs.Updates.{in_colours, update_of}
use Rattle.update_encoder.specs.Follower.{after_rectangle, after_rectangles, after_message, unknown}
use Rattle.viewer_session.specs.Stream.{Listener, after_step, hears_bytes}
use Rattle.played_session.specs.ReadAlike.{ShowsWhatIsHeld, ViewersAndDecodersReadAlike}

-- ---- one paint

-- The colours of some values stand where the values do, and past their end there is black.
colour_at : (values : List ℕ) (k : ℕ) → slice_index (map colour_of values) k ≡ colour_of (slice_index values k)
colour_at [] k = refl
colour_at (v ∷ values) zero = refl
colour_at (v ∷ values) (suc k) = colour_at values k

value_is : (a b : ℕ) → Some a ≡ Some b → a ≡ b
value_is a b e = cc

-- A position that is written, and one that isn't.
shows_if : (b : Bool) (over under : Option ℕ) (here there value : ℕ) → (over ≡ Some value → here ≡ colour_of value) → (under ≡ Some value → there ≡ colour_of value)
    → cond b over under ≡ Some value → cond b here there ≡ colour_of value
shows_if true over under here there value k l e = k e
shows_if false over under here there value k l e = l e

pub nothing_held : (canvas : Canvas) → ShowsWhatIsHeld unknown canvas
nothing_held canvas x y value e = absurd cc

paint_shows : (held : Map (Option ℕ)) (canvas : Canvas) (p : Paint) → ShowsWhatIsHeld held canvas → ShowsWhatIsHeld (after_rectangle held p) (after_paint canvas (in_colours p))
paint_shows held canvas (Put r values) k x y value e =
    shows_if (holds r x y) (Some (value_at r.w values (x - r.x) (y - r.y))) (held x y) (value_at r.w (map colour_of values) (x - r.x) (y - r.y)) (canvas x y) value
    (λ is. colour_at values ((y - r.y) * r.w + (x - r.x)) ∙ ap colour_of (value_is (value_at r.w values (x - r.x) (y - r.y)) value is)) (k x y value) e
paint_shows held canvas (Copy r sx sy) k x y value e =
    let sourced : ℕ = sx + (x - r.x) in
    let below : ℕ = sy + (y - r.y) in
    shows_if (holds r x y) (held sourced below) (held x y) (canvas sourced below) (canvas x y) value (k sourced below value) (k x y value) e
paint_shows held canvas (Resized size) k x y value e = nothing_held (after_paint canvas (Resized size)) x y value e

paints_show : (held : Map (Option ℕ)) (canvas : Canvas) (ps : List Paint) → ShowsWhatIsHeld held canvas → ShowsWhatIsHeld (after_rectangles held ps) (after_paints canvas (map in_colours ps))
paints_show held canvas [] k = k
paints_show held canvas (p ∷ ps) k = paints_show (after_rectangle held p) (after_paint canvas (in_colours p)) ps (paint_shows held canvas p k)

-- ---- one message

-- What messages change of a screen.
abbrev pub screen_after : Canvas → List ServerMessage → Canvas
screen_after canvas ms = after_updates canvas (filter_map update_of ms)

message_shows : (held : Map (Option ℕ)) (canvas : Canvas) (m : ServerMessage) → ShowsWhatIsHeld held canvas → ShowsWhatIsHeld (after_message held (Some m)) (screen_after canvas (m ∷ []))
message_shows held canvas (FramebufferUpdate ps) k = paints_show held canvas ps k
message_shows held canvas SetColorMapEntries k = k
message_shows held canvas Bell k = k
message_shows held canvas (ServerCutText text) k = k
message_shows held canvas (LostText len) k = k

one_then : (canvas : Canvas) (m : ServerMessage) (ms : List ServerMessage) → screen_after canvas (m ∷ ms) ≡ screen_after (screen_after canvas (m ∷ [])) ms
one_then canvas (FramebufferUpdate ps) ms = refl
one_then canvas SetColorMapEntries ms = refl
one_then canvas Bell ms = refl
one_then canvas (ServerCutText text) ms = refl
one_then canvas (LostText len) ms = refl

-- ---- bytes

-- A viewer that is in the host's format, holds this, has read these messages and is here in the next one.
abbrev pub viewing : Map (Option ℕ) → List ServerMessage → Reading ServerMessage → Listener
viewing held ms now = record { follower = record { format = host_format; held = held }; messages = ms; reading = now }

-- It has read these messages more, and is there; and what it holds is shown on the screen after them.
pub record HasRead (canvas : Canvas) (before more : List ServerMessage) (now : Reading ServerMessage) (l : Listener) : Type 0 where
  pub messages : l.messages ≡ before ++ more
  pub reading : l.reading ≡ now
  pub shows : ShowsWhatIsHeld l.follower.held (screen_after canvas more)

-- A byte was read, and the others are read from wherever that has led.
reads_on : (w h : ℕ) (held : Map (Option ℕ)) (canvas : Canvas) (ms : List ServerMessage) (before now : Reading ServerMessage) (bs : List ℕ) → ShowsWhatIsHeld held canvas
    → ((held : Map (Option ℕ)) (canvas : Canvas) (ms : List ServerMessage) (now : Reading ServerMessage) → ShowsWhatIsHeld held canvas
    → HasRead canvas ms (messages_from (host_message w h) now bs) (rest_from (host_message w h) now bs) (hears_bytes w h (viewing held ms now) bs))
    → HasRead canvas ms (finished now ++ messages_from (host_message w h) (renewed (host_message w h) now) bs) (rest_from (host_message w h) (renewed (host_message w h) now) bs)
    (hears_bytes w h (after_step w h (viewing held ms before) now) bs)
reads_on w h held canvas ms before (Done m) bs k on =
    let more : List ServerMessage = messages_from (host_message w h) (host_message w h) bs in
    let r = on (after_message held (Some m)) (screen_after canvas (m ∷ [])) (ms ++ m ∷ []) (host_message w h) (message_shows held canvas m k) in
    record {
      messages = r.messages ∙ append_assoc ms (m ∷ []) more;
      reading = r.reading;
      shows = subst (λ c. ShowsWhatIsHeld (hears_bytes w h (after_step w h (viewing held ms before) (Done m)) bs).follower.held c) (sym (one_then canvas m more)) r.shows;
    }
reads_on w h held canvas ms before (Faulty fault) bs k on = on held canvas ms (Faulty fault) k
reads_on w h held canvas ms before (Want more) bs k on = on held canvas ms (Want more) k

pub reads : (w h : ℕ) (held : Map (Option ℕ)) (canvas : Canvas) (ms : List ServerMessage) (now : Reading ServerMessage) (bs : List ℕ) → ShowsWhatIsHeld held canvas
    → HasRead canvas ms (messages_from (host_message w h) now bs) (rest_from (host_message w h) now bs) (hears_bytes w h (viewing held ms now) bs)
reads w h held canvas ms now [] k = record { messages = sym (append-nil ms); reading = refl; shows = k }
reads w h held canvas ms now (b ∷ bs) k =
    reads_on w h held canvas ms now (step now b) bs k (λ held_ canvas_ ms_ now_ k_. reads w h held_ canvas_ ms_ now_ bs k_)

pub read_alike : ViewersAndDecodersReadAlike
read_alike w h bytes =
    let r = reads w h unknown opening [] (host_message w h) bytes (nothing_held opening) in
    record { messages_are = r.messages; reading_is = r.reading; shows = r.shows }

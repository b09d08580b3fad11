-- The updates in a host's bytes: more bytes bring more of them, and their texts are short, those of all hosts too. A
-- world that reads on keeps the updates that it has put.
use Rattle.std.proofs.Common.{◌≡◌, ℕ, List, [], ◌∷◌, ◌++◌, ap, ◌∙◌}
use Rattle.std.specs.List.{filter_map}
use Rattle.std.proofs.lemmas.List.Elements.{filter_map-append}
use Rattle.pixel_format.specs.PixelFormat.{host_format}
use Rattle.byte_reading.specs.Reading.{Reading, messages, messages_from, rest, Gives}
use Rattle.byte_reading.proofs.ReadingLaws.{messages-append}
use Rattle.raster.specs.Switch.{switch}
use Rattle.raster.proofs.Spellings.{Each, each_append, each_message}
use Rattle.rfb_wire.specs.ServerMessage.{ServerMessage, FramebufferUpdate, SetColorMapEntries, ServerCutText, LostText}
use Rattle.rfb_wire.specs.ServerMessage as server
use Rattle.rfb_wire.specs.Texts.{HasShortText, BringsShortText}
use Rattle.rfb_wire.proofs.ShortTexts.{server_message_short}
use Rattle.host_decoder.specs.Decoder.{host_message}
use Rattle.host_decoder.specs.Hosts.{ended_updates, updates_in_turn}
use Rattle.host_decoder.specs.Updates.{update_of, updates, updates_by}

-- The updates in more bytes go on after those in the first.
pub updates-append : (form : Reading ServerMessage) (xs ys : List ℕ) → updates_by form (xs ++ ys) ≡ updates_by form xs ++ filter_map update_of (messages_from form (rest form xs) ys)
updates-append form xs ys =
    ap (filter_map update_of) (messages-append form form xs ys) ∙ filter_map-append update_of (messages form xs) (messages_from form (rest form xs) ys)

short_of : (ms : List ServerMessage) → Each HasShortText ms → Each BringsShortText (filter_map update_of ms)
short_of [] k = tt
short_of (FramebufferUpdate ps ∷ ms) k = (tt, short_of ms k.1)
short_of (SetColorMapEntries ∷ ms) k = short_of ms k.1
short_of (server.Bell ∷ ms) k = (tt, short_of ms k.1)
short_of (ServerCutText text ∷ ms) k = (k.0, short_of ms k.1)
short_of (LostText len ∷ ms) k = short_of ms k.1

pub updates_short : (form : Reading ServerMessage) (stream : List ℕ) → Gives HasShortText form → Each BringsShortText (updates_by form stream)
updates_short form stream k = short_of (messages form stream) (each_message HasShortText form form stream k k)

-- What is so of each of a list is so of each of its first ones.
pub each_begins : {A : Type 0} (P : A → Type 0) (xs ys : List A) → Each P (xs ++ ys) → Each P xs
each_begins P [] ys k = tt
each_begins P (x ∷ xs) ys k = (k.0, each_begins P xs ys k.1)

-- ---- those of several hosts

ended_short : (w h : ℕ) (ended : List (List ℕ)) → Each BringsShortText (ended_updates w h ended)
ended_short w h [] = tt
ended_short w h (first ∷ ended) =
    each_append BringsShortText (updates w h first ++ switch w h ∷ []) (ended_updates w h ended)
    (each_append BringsShortText (updates w h first) (switch w h ∷ []) (updates_short (host_message w h) first (server_message_short host_format w h)) (tt, tt)) (ended_short w h ended)

pub turn_short : (w h : ℕ) (ended : List (List ℕ)) (present : List ℕ) → Each BringsShortText (updates_in_turn w h ended present)
turn_short w h ended present =
    each_append BringsShortText (ended_updates w h ended) (updates w h present) (ended_short w h ended) (updates_short (host_message w h) present (server_message_short host_format w h))

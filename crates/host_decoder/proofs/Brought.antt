-- The updates that events bring. The law `event_brings_update` is made of it.
use Rattle.std.proofs.Common.{◌≡◌, ℕ, List, [], ◌∷◌, ◌++◌, map, refl, sym, ap, ◌∙◌}
use Rattle.std.specs.List.{filter_map}
use Rattle.std.proofs.lemmas.List.Elements.{filter_map-append}
use Rattle.rfb_wire.specs.ServerMessage.{ServerMessage, FramebufferUpdate, SetColorMapEntries, Bell, ServerCutText, LostText}
use Rattle.host_decoder.specs.Events.{brought_by, event_of, update_in}
use Rattle.host_decoder.specs.Updates.{update_of}

pub brings : (w h : ℕ) (m : ServerMessage) → update_in (event_of w h m) ≡ update_of m
brings w h (FramebufferUpdate paints) = refl
brings w h SetColorMapEntries = refl
brings w h Bell = refl
brings w h (ServerCutText text) = refl
brings w h (LostText len) = refl

pub brings_listed : (w h : ℕ) (m : ServerMessage) → brought_by (event_of w h m) ≡ filter_map update_of (m ∷ [])
brings_listed w h (FramebufferUpdate paints) = refl
brings_listed w h SetColorMapEntries = refl
brings_listed w h Bell = refl
brings_listed w h (ServerCutText text) = refl
brings_listed w h (LostText len) = refl

one_by_one : (w h : ℕ) (m : ServerMessage) → filter_map update_in (event_of w h m ∷ []) ≡ filter_map update_of (m ∷ [])
one_by_one w h (FramebufferUpdate paints) = refl
one_by_one w h SetColorMapEntries = refl
one_by_one w h Bell = refl
one_by_one w h (ServerCutText text) = refl
one_by_one w h (LostText len) = refl

pub all_bring : (w h : ℕ) (ms : List ServerMessage) → filter_map update_in (map (event_of w h) ms) ≡ filter_map update_of ms
all_bring w h [] = refl
all_bring w h (m ∷ ms) =
    filter_map-append update_in (event_of w h m ∷ []) (map (event_of w h) ms)
    ∙ (ap (λ us. us ++ filter_map update_in (map (event_of w h) ms)) (one_by_one w h m)
    ∙ (ap (λ us. filter_map update_of (m ∷ []) ++ us) (all_bring w h ms) ∙ sym (filter_map-append update_of (m ∷ []) ms)))

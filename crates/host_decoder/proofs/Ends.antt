-- Whole messages that paint nothing. Bells, texts and colour maps end so.
use Rattle.std.proofs.Common.{◌≡◌, ℕ, List, [], ◌++◌, refl, sym, ap, subst}
use Rattle.std.proofs.lemmas.List.{append-nil}
use Rattle.byte_reading.specs.Reading.{Done}
use Rattle.raster.specs.Update.{Bell, Cut}
use Rattle.painter.specs.Patch.{SizedUpdate}
use Rattle.painter.proofs.SameLaws.{same_none, same_one}
use Rattle.rfb_wire.specs.ServerMessage.{ServerMessage, SetColorMapEntries, ServerCutText, LostText}
use Rattle.rfb_wire.specs.ServerMessage as server
use Rattle.host_decoder.specs.declared.event.HostEvent.TheVariants as event
use Rattle.host_decoder.specs.declared.state.HostState.TheVariants as state
use Rattle.host_decoder.specs.Events.{sized}
use Rattle.host_decoder.specs.Decoder.{StandsUnpainted, keeping}

-- A Bell.
pub bell_ends : (w h : ℕ) (patch : SizedUpdate) → patch ≡ sized w h Bell → StandsUnpainted w h (state.Whole (event.Bell patch)) (Done server.Bell)
bell_ends w h patch is start painter none =
    subst (λ (p : SizedUpdate). StandsUnpainted w h (state.Whole (event.Bell p)) (Done server.Bell)) (sym is)
    (λ screen held shows. record {
      message = server.Bell;
      reads = refl;
      brings = record { sized = (refl, refl); same = λ before alike. same_one w h screen before Bell Bell alike alike (λ t lt. refl) refl };
      shows = shows;
    })
    start painter none

-- A text that was kept.
pub text_ends : (w h : ℕ) (patch : SizedUpdate) (bytes : List ℕ) → patch ≡ sized w h (Cut bytes) → StandsUnpainted w h (state.Whole (event.Cut patch)) (keeping bytes 0)
text_ends w h patch bytes is start painter none =
    let all : bytes ++ [] ≡ bytes = append-nil bytes in
    subst (λ (p : SizedUpdate). StandsUnpainted w h (state.Whole (event.Cut p)) (keeping bytes 0)) (sym is)
    (λ screen held shows. record {
      message = ServerCutText bytes;
      reads = ap (λ (bs : List ℕ). Done (ServerCutText bs)) all;
      brings = record { sized = (refl, refl); same = λ before alike. same_one w h screen before (Cut bytes) (Cut bytes) alike alike (λ t lt. refl) refl };
      shows = shows;
    })
    start painter none

-- A colour map.
pub map_ends : (w h : ℕ) → StandsUnpainted w h (state.Whole event.Map) (Done SetColorMapEntries)
map_ends w h start painter none = record { message = SetColorMapEntries; reads = refl; brings = record { sized = tt; same = λ before alike. same_none w h start before alike }; shows = none }

-- A text that was read past.
pub long_text_ends : (w h len : ℕ) → StandsUnpainted w h (state.Whole event.LongCut) (Done (LostText len))
long_text_ends w h len start painter none = record { message = LostText len; reads = refl; brings = record { sized = tt; same = λ before alike. same_none w h start before alike }; shows = none }

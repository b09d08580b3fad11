-- One who follows a host is fed a piece, message by message.
use Rattle.std.proofs.Common.{◌≡◌, ℕ, ◌+◌, ◌<◌, ◌≤◌, true, List, [], ◌++◌, length, take, drop, Option, Some, None, Ok, refl, sym, ap, subst, ◌∙◌, arith, length-drop}
use Rattle.std.specs.Prelude.{is_some, IfSome}
use Rattle.std.proofs.lemmas.List.{take_all}
use Rattle.byte_reading.specs.Reading.{Reading, rest, taken}
use Rattle.byte_reading.proofs.ReadingLaws.{taken-some}
use Rattle.raster.specs.Screen.{Canvas, opening}
use Rattle.raster.specs.Update.{screen}
use Rattle.rfb_wire.specs.ServerMessage.{ServerMessage}
use Rattle.painter.specs.Painter.{Painting}
use Rattle.host_decoder.specs.Decoder.{Decodes, Decoding, Feeds, host_message, start, waiting}
use Rattle.host_decoder.specs.Events.{brought_by}
use Rattle.host_decoder.specs.Updates.{updates}
use Rattle.host_decoder.specs.declared.event.HostEvent.{HostEvent}
use Rattle.host_decoder.specs.declared.state.HostState.{HostState}
use Rattle.rebuilt_index.specs.Following.{Follows, FollowsBy, HasFed}
use Rattle.rebuilt_index.specs.declared.follower.Follower.{Follower}
use Rattle.rebuilt_index.proofs.Steps.{further}

pub follows_nothing : (w h : ℕ) (decoder : Decoding) (painter : Painting) → decoder.width ≡ w → decoder.height ≡ h → decoder.state ≡ start → Decodes decoder painter opening (host_message w h) → FollowsBy w h decoder painter true []
follows_nothing w h decoder painter wide high none decodes = record { wide = wide; high = high; reads = decodes; wants = refl; between = λ e. refl; none = λ e. none }

-- Where an event was taken the decoder begins anew.
pub starts : (answer : Option HostEvent) (old new : HostState) → IfSome answer (λ event. (waiting old ≡ brought_by event) × (new ≡ start)) → is_some answer ≡ true → new ≡ start
starts (Some event) old new h e = h.1
starts None old new h e = absurd cc

has_fed : (w h : ℕ) (f g : Follower) (stream left : List ℕ) (count : ℕ) → Follows w h f stream → g.decoder.width ≡ f.decoder.width → g.decoder.height ≡ f.decoder.height → 0 < length left
    → ((canvas : Canvas) (r : Reading ServerMessage) → Decodes f.decoder f.painter canvas r → Feeds g.decoder g.painter canvas r left (Ok count))
    → HasFed w h g stream left × (count ≡ taken (rest (host_message w h) stream) left)
has_fed w h f g stream left count k wide high some feeds =
    let fed = feeds (screen (updates w h stream)) (rest (host_message w h) stream) k.reads in
    (record { wide = wide ∙ k.wide; high = high ∙ k.high; some = some; wants = k.wants; reads = fed.0; fine = fed.2 }, fed.1)

-- A message ended within the piece, or the piece did; g was fed, and k has taken what is whole.
pub goes_further : (w h : ℕ) (f g k : Follower) (stream piece left : List ℕ) (begin used count : ℕ) → left ≡ drop begin piece → used ≡ begin → begin < length piece → Follows w h f (stream ++ take used piece)
    → g.decoder.width ≡ f.decoder.width → g.decoder.height ≡ f.decoder.height
    → ((canvas : Canvas) (r : Reading ServerMessage) → Decodes f.decoder f.painter canvas r → Feeds g.decoder g.painter canvas r left (Ok count))
    → ((w h : ℕ) (stream piece : List ℕ) → HasFed w h g stream piece → Follows w h k (stream ++ take (taken (rest (host_message w h) stream) piece) piece))
    → (begin + 1 ≤ begin + count) × Follows w h k (stream ++ take (begin + count) piece)
goes_further w h f g k stream piece left begin used count is same within follows wide high feeds takes =
    let front : List ℕ = stream ++ take begin piece in
    let here : Follows w h f front = subst (λ (n : ℕ). Follows w h f (stream ++ take n piece)) same follows in
    let long : length left ≡ length (drop begin piece) = ap length is in
    let some : 0 < length left = omega (arith, long, length-drop begin piece, within) in
    let fed = has_fed w h f g front left count here wide high some feeds in
    let step : Follows w h k (front ++ take (taken (rest (host_message w h) front) left) left) = takes w h front left fed.0 in
    let more : 0 < taken (rest (host_message w h) front) left = taken-some (rest (host_message w h) front) left here.wants some in
    let on : Follows w h k (front ++ take count left) = subst (λ (n : ℕ). Follows w h k (front ++ take n left)) (sym fed.1) step in
    (omega (arith, fed.1, more), subst (λ (xs : List ℕ). Follows w h k xs) (further stream piece left begin count is) on)

-- All of the piece was used.
pub whole_piece : (w h : ℕ) (f : Follower) (stream piece : List ℕ) (begin used : ℕ) → length piece ≤ begin → (begin ≤ used) × Follows w h f (stream ++ take used piece) → Follows w h f (stream ++ piece)
whole_piece w h f stream piece begin used end k = subst (λ (xs : List ℕ). Follows w h f (stream ++ xs)) (take_all used piece (omega (arith, end, k.0))) k.1

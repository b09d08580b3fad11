-- What whole messages of a host bring (RFC 6143, 7.6).
use Rattle.std.specs.Prelude.{◌≡◌, ℕ, List, [], ◌∷◌, map, Option, Some, None}
use Rattle.raster.specs.Update as update
use Rattle.raster.specs.Screen.{Canvas}
use Rattle.raster.specs.Update.{Update, after_updates, of_paints}
use Rattle.painter.specs.Patch.{SizedUpdate}
use Rattle.painter.specs.Same.{AreSameUpdates}
use Rattle.rfb_wire.specs.ServerMessage as server
use Rattle.rfb_wire.specs.ServerMessage.{ServerMessage, FramebufferUpdate, SetColorMapEntries, ServerCutText, LostText}
use Rattle.host_decoder.specs.Updates.{in_colours}
use Rattle.host_decoder.specs.declared.event.HostEvent.{HostEvent}
use Rattle.host_decoder.specs.declared.event.HostEvent.TheVariants.{Paint, Bell, Cut, Map, LongCut}

-- An update for a screen of w by h.
abbrev pub sized : ℕ → ℕ → Update → SizedUpdate
sized w h update = record { width = w; height = h; update = update }

-- The event of a message, over a screen of w by h.
abbrev pub event_of : ℕ → ℕ → ServerMessage → HostEvent
event_of w h (FramebufferUpdate paints) = Paint (sized w h (of_paints (map in_colours paints)))
event_of w h SetColorMapEntries = Map
event_of w h server.Bell = Bell (sized w h update.Bell)
event_of w h (ServerCutText text) = Cut (sized w h (update.Cut text))
event_of w h (LostText len) = LongCut

-- The update that an event brings. A colour map brings none, nor does a text that isn't kept.
abbrev pub update_in : HostEvent → Option Update
update_in (Paint patch) = Some patch.update
update_in (Bell patch) = Some patch.update
update_in (Cut patch) = Some patch.update
update_in Map = None
update_in LongCut = None

-- The update that an event brings, as a list.
abbrev pub brought_by : HostEvent → List Update
brought_by (Paint patch) = patch.update ∷ []
brought_by (Bell patch) = patch.update ∷ []
brought_by (Cut patch) = patch.update ∷ []
brought_by Map = []
brought_by LongCut = []

-- The event's patch, if it has one, is for a screen of w by h.
abbrev pub IsSized : ℕ → ℕ → HostEvent → Type 0
IsSized w h (Paint patch) = (patch.width ≡ w) × (patch.height ≡ h)
IsSized w h (Bell patch) = (patch.width ≡ w) × (patch.height ≡ h)
IsSized w h (Cut patch) = (patch.width ≡ w) × (patch.height ≡ h)
IsSized w h Map = Unit {0}
IsSized w h LongCut = Unit {0}

-- What a message changes, as a list.
abbrev pub changes : ℕ → ℕ → ServerMessage → List Update
changes w h message = brought_by (event_of w h message)

-- The event brings what this message changes, where it was sent over the screen start.
pub record Brings (w h : ℕ) (start : Canvas) (event : HostEvent) (message : ServerMessage) : Type 0 where
  pub sized : IsSized w h event
  pub same : AreSameUpdates w h start (changes w h message) (brought_by event)

-- Either there are both an event and a message, and the event brings what the message changes, or there is neither.
abbrev pub BringsWhole : ℕ → ℕ → Canvas → Option HostEvent → Option ServerMessage → Type 0
BringsWhole w h start None None = Unit {0}
BringsWhole w h start None (Some message) = ⊥
BringsWhole w h start (Some event) None = ⊥
BringsWhole w h start (Some event) (Some message) = Brings w h start event message

-- The screen after a message that was sent over the screen start, or that screen itself where no message is whole.
abbrev pub screen_behind : ℕ → ℕ → Canvas → Option ServerMessage → Canvas
screen_behind w h start None = start
screen_behind w h start (Some message) = after_updates start (changes w h message)

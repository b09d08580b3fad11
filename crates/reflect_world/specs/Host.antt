-- The host of a world: its bytes, and how far they were read.
use Rattle.std.specs.Prelude.{◌≡◌, ℕ, ◌⊎◌, true, List, [], ◌∷◌, ◌++◌, length, Option, Some, None, IfSome, Result, Ok, Err}
use Rattle.pixel_format.specs.PixelFormat.{host_format}
use Rattle.fault.specs.declared.kinds.Fault.{Fault}
use Rattle.fault.specs.declared.kinds.Fault.TheVariants.{Memory}
use Rattle.byte_reading.specs.Reading.{Reading, fault_of, rest}
use Rattle.raster.specs.Screen.{opening}
use Rattle.raster.specs.Size.{IsScreenSize}
use Rattle.raster.specs.Switch.{switch}
use Rattle.raster.specs.Update.{Update, screen}
use Rattle.rfb_wire.specs.ServerMessage.{ServerMessage, server_message}
use Rattle.painter.specs.Patch.{SizedUpdate}
use Rattle.painter.specs.Same.{AreSameFrom}
use Rattle.painter.specs.Painter.{Painting}
use Rattle.host_decoder.specs.Decoder.{Decoding, Decodes, is_refused}
use Rattle.host_decoder.specs.declared.event.HostEvent.{HostEvent}
use Rattle.host_decoder.specs.declared.event.HostEvent.TheVariants.{Paint, Bell, Cut, Map, LongCut}
use Rattle.host_decoder.specs.Updates.{updates_by}

-- The form of a host's messages in the format that it was asked for.
abbrev pub host_form : ℕ → ℕ → Reading ServerMessage
host_form w h = server_message host_format w h

-- The decoder, the painter that it fills, the bytes that weren't read yet, and an update that was read and couldn't be
-- put.
pub record HostSide : Type 0 where
  pub decoder : Decoding
  pub painter : Painting
  pub unread : List ℕ
  pub waiting : Option SizedUpdate

-- The form of this host's messages.
abbrev pub form_of : HostSide → Reading ServerMessage
form_of host = host_form host.decoder.width host.decoder.height

-- The update that waits, as a list.
abbrev pub waiting_list : Option SizedUpdate → List Update
waiting_list None = []
waiting_list (Some patch) = patch.update ∷ []

-- The updates of the hosts before this one, and then those in its own bytes.
abbrev pub with_past : List Update → Reading ServerMessage → List ℕ → List Update
with_past past form bytes = past ++ updates_by form bytes

-- All of the host's bytes were read except the unread ones. Two lists of updates have the same effect from the opening
-- screen on: those of the hosts before and then those of the bytes read; and `us` and then the update that waits. The
-- decoder stands where reading these bytes leads, over the screen that the first list has made.
pub record HasReadTo (past : List Update) (bytes : List ℕ) (us : List Update) (host : HostSide) : Type 0 where
  pub read : List ℕ
  pub split : bytes ≡ read ++ host.unread
  pub updates : AreSameFrom host.decoder.width host.decoder.height opening opening (with_past past (form_of host) read) (us ++ waiting_list host.waiting)
  pub decodes : Decodes host.decoder host.painter (screen (with_past past (form_of host) read)) (rest (form_of host) read)

-- HasReadTo holds, unless the decoder was refused memory: then it reads nothing more.
abbrev pub HostStands : List Update → List ℕ → List Update → HostSide → Type 0
HostStands past bytes us host = ((is_refused host.decoder.state ≡ true) × (host.waiting ≡ None)) ⊎ HasReadTo past bytes us host

-- This side stands for the bytes and updates of some host, after some other hosts.
abbrev pub CanRead : HostSide → Type 0
CanRead host = (past : List Update) × (bytes : List ℕ) × (us : List Update) × HostStands past bytes us host

-- The hosts' bytes have just as many updates as `us`, and stand at this fault, if there is one.
pub record IsReadOut (past : List Update) (bytes : List ℕ) (us : List Update) (form : Reading ServerMessage) (fault : Option Fault) : Type 0 where
  pub none_left : length (with_past past form bytes) ≡ length us
  pub stands_at : fault_of (rest form bytes) ≡ fault

-- The next update was read; or there is none, with or without a fault; or memory was refused. Whatever bytes and
-- updates the old side stood for, the new one stands for the same, with the update that was read.
abbrev pub ReadsOn : HostSide → HostSide → Result (Option SizedUpdate) Fault → Type 0
ReadsOn old new (Ok (Some patch)) = (past : List Update) (bytes : List ℕ) (us : List Update) → HostStands past bytes us old → HasReadTo past bytes (us ++ patch.update ∷ []) new
ReadsOn old new (Ok None) = (past : List Update) (bytes : List ℕ) (us : List Update) → HostStands past bytes us old → HasReadTo past bytes us new × IsReadOut past bytes us (form_of new) None
ReadsOn old new (Err fault) =
    (past : List Update) (bytes : List ℕ) (us : List Update) → HostStands past bytes us old
    → HostStands past bytes us new × ((fault ≡ Memory) ⊎ IsReadOut past bytes us (form_of new) (Some fault))

-- The next host begins, once the old one was read to its end without a fault. Whatever bytes and updates the old side
-- stood for, the new one stands for a next host that has sent nothing, after a switch to black, which waits to be put.
abbrev pub BeginsNext : HostSide → HostSide → Type 0
BeginsNext old new =
    (past : List Update) (bytes : List ℕ) (us : List Update) → HasReadTo past bytes us old → IsReadOut past bytes us (form_of old) None
    → HasReadTo (with_past past (form_of old) bytes ++ switch old.decoder.width old.decoder.height ∷ []) [] us new

-- The update that an event brings. A colour map brings none, nor does a text that isn't kept.
abbrev pub patch_in : HostEvent → Option SizedUpdate
patch_in (Paint patch) = Some patch
patch_in (Bell patch) = Some patch
patch_in (Cut patch) = Some patch
patch_in Map = None
patch_in LongCut = None

-- A message was read, which brings this update or none.
abbrev pub ReadsMessage : HostSide → HostSide → Option SizedUpdate → Type 0
ReadsMessage old new brings = (past : List Update) (bytes : List ℕ) (us : List Update) → HostStands past bytes us old → HasReadTo past bytes (us ++ waiting_list brings) new

-- ---- what its fields hold

-- Decoder, painter and waiting update are of one screen.
pub record IsHost (host : HostSide) : Type 0 where
  pub size : IsScreenSize host.decoder.width host.decoder.height
  pub painter : (host.painter.width ≡ host.decoder.width) × (host.painter.height ≡ host.decoder.height)
  pub waiting : IfSome host.waiting (λ patch. (patch.width ≡ host.decoder.width) × (patch.height ≡ host.decoder.height))

-- The size of the screen is the same in both.
pub record IsSameHost (old new : HostSide) : Type 0 where
  pub width : new.decoder.width ≡ old.decoder.width
  pub height : new.decoder.height ≡ old.decoder.height

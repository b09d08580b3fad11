-- Reading a host's bytes from a link, and putting their updates (RFC 6143, 7.6).
use Rattle.std.specs.Prelude.{◌≡◌, ℕ, ◌^◌, ◌<◌, ◌⊎◌, Bool, true, false, Option, Some, None, Result, Ok, Err, List, ◌++◌, length}
use Rattle.byte_reading.specs.Reading.{Reading, Faulty, after, rest, wants_more}
use Rattle.fault.specs.declared.kinds.Fault.{Fault}
use Rattle.fault.specs.declared.kinds.Fault.TheVariants.{LinkEnded, LinkFailed, Memory, NumbersOut}
use Rattle.raster.specs.Screen.{Canvas}
use Rattle.raster.specs.Update.{Update, after_updates}
use Rattle.painter.specs.Painter.{Painting}
use Rattle.painter.specs.Same.{AreSameUpdates}
use Rattle.link.specs.Links.{LinkState, HasRisen}
use Rattle.link.specs.declared.link.Took.{Took}
use Rattle.link.specs.declared.link.Took.TheVariants as took
use Rattle.rfb_wire.specs.ServerMessage.{ServerMessage}
use Rattle.host_decoder.specs.Decoder.{Decodes, Decoding, host_message}
use Rattle.host_decoder.specs.Updates.{updates}
use Rattle.reflect_core.specs.Sequential.{Begins}

-- The decoder and the painter are ready for the first byte of a message; the messages before it have made this screen.
abbrev pub AwaitsMessage : Decoding → Painting → Canvas → Type 0
AwaitsMessage decoder painter screen = Decodes decoder painter screen (host_message decoder.width decoder.height)

-- The host's bytes end inside a message: behind some whole messages there are bytes that begin one, which wants more.
pub record IsInside (w h : ℕ) (stream : List ℕ) : Type 0 where
  pub whole : List ℕ
  pub begun : List ℕ
  pub bytes : stream ≡ whole ++ begun
  pub between : rest (host_message w h) whole ≡ host_message w h
  pub some : 0 < length begun
  pub wants : wants_more (after (host_message w h) begun) ≡ true

-- The host's bytes end between two messages, or inside one.
abbrev pub EndsAt : Bool → ℕ → ℕ → List ℕ → Type 0
EndsAt true w h stream = rest (host_message w h) stream ≡ host_message w h
EndsAt false w h stream = IsInside w h stream

-- ---- how it ends

-- The publisher had the updates `old`, and further updates were put after them. Over this screen they have the same
-- effect, one by one, as the updates of the host's bytes.
pub record ArePut (w h : ℕ) (screen : Canvas) (stream : List ℕ) (old new : List Update) : Type 0 where
  pub put : List Update
  pub added : new ≡ old ++ put
  pub same : AreSameUpdates w h screen (updates w h stream) put

-- As above, but only the first of those updates were put, since memory was refused or there were no more numbers.
pub record AreCut (w h : ℕ) (screen : Canvas) (fault : Fault) (stream : List ℕ) (old new : List Update) : Type 0 where
  pub put : List Update
  pub added : new ≡ old ++ put
  pub first : List Update
  pub begins : Begins first (updates w h stream)
  pub same : AreSameUpdates w h screen first put
  pub why : (fault ≡ Memory) ⊎ ((fault ≡ NumbersOut) × (length new ≡ 2 ^ 62))

-- The bytes are at fault.
pub record AtFault (w h : ℕ) (screen : Canvas) (fault : Fault) (stream : List ℕ) (old new : List Update) : Type 0 where
  pub put : ArePut w h screen stream old new
  pub rest : rest (host_message w h) stream ≡ Faulty fault

-- Why a piece wasn't read to its end.
abbrev pub Stops : ℕ → ℕ → Canvas → Fault → (stream : List ℕ) → (old new : List Update) → Type 0
Stops w h screen fault stream old new = AreCut w h screen fault stream old new ⊎ AtFault w h screen fault stream old new

-- The link said in the meantime that it ended, between two messages, and it didn't fail.
pub record EndsBetween (w h : ℕ) (screen : Canvas) (link_old link_new : LinkState) (old new : List Update)
    : Type 0 where
  pub stream : List ℕ
  pub taken : link_new.taken ≡ link_old.taken ++ stream
  pub put : ArePut w h screen stream old new
  pub between : EndsAt true w h stream
  pub ended : HasRisen link_old.ended link_new.ended
  pub failed : link_new.failed ≡ link_old.failed

-- The link failed in the meantime, or it said that it ended, inside a message.
abbrev pub LinkStops : ℕ → ℕ → Fault → (stream : List ℕ) → (link_old link_new : LinkState) → Type 0
LinkStops w h LinkFailed stream link_old link_new = HasRisen link_old.failed link_new.failed
LinkStops w h LinkEnded stream link_old link_new = HasRisen link_old.ended link_new.ended × IsInside w h stream
LinkStops w h _ stream link_old link_new = ⊥

-- Why it ends otherwise. What was put stays.
pub record EndsWith (w h : ℕ) (screen : Canvas) (fault : Fault) (link_old link_new : LinkState)
    (old new : List Update) : Type 0 where
  pub stream : List ℕ
  pub taken : link_new.taken ≡ link_old.taken ++ stream
  pub stops : (ArePut w h screen stream old new × LinkStops w h fault stream link_old link_new)
      ⊎ Stops w h screen fault stream old new

-- What is answered where an answer of the link ends the run: the host's bytes so far end between two messages, or
-- inside one.
abbrev pub outcome : Took → Bool → Option (Result (Unit {0}) Fault)
outcome (took.Bytes count) is_between = None
outcome took.Nothing is_between = None
outcome took.End true = Some (Ok tt)
outcome took.End false = Some (Err LinkEnded)
outcome took.Failed is_between = Some (Err LinkFailed)

-- ---- on the way

-- The decoder and its painter stand for a message of which more is wanted.
pub record CanRead (decoder : Decoding) (painter : Painting) : Type 0 where
  pub screen : Canvas
  pub reading : Reading ServerMessage
  pub reads : Decodes decoder painter screen reading
  pub wants : wants_more reading ≡ true

-- The decoder and the painter have read the host's bytes so far, which begin over this screen, and all updates of these
-- bytes were put.
pub record HasRead (w h : ℕ) (screen : Canvas) (decoder : Decoding) (painter : Painting) (is_between : Bool)
    (stream : List ℕ) (old new : List Update) : Type 0 where
  pub reads : Decodes decoder painter (after_updates screen (updates w h stream)) (rest (host_message w h) stream)
  pub wants : wants_more (rest (host_message w h) stream) ≡ true
  pub ends : EndsAt is_between w h stream
  pub put : ArePut w h screen stream old new

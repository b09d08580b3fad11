-- Why the index of a recording can't be made anew (own).
use Rattle.std.specs.Prelude.{◌≡◌, ◌⊎◌, ◌<◌, ◌^◌, ℕ, List, None, Err, length}
use Rattle.byte_reading.specs.Reading.{Done, Faulty, after, rest}
use Rattle.fault.specs.declared.kinds.Fault.{Fault}
use Rattle.fault.specs.declared.kinds.Fault.TheVariants.{Memory, NumbersOut}
use Rattle.host_decoder.specs.Decoder.{host_message}
use Rattle.rfb_wire.specs.Handshake.{Joined, host_hello}
use Rattle.recording.specs.Recording.{Block, recording_bytes}
use Rattle.recording.specs.BlockReading.{blocks_in, rest_of}
use Rattle.recording.specs.declared.bad.BadRecording.TheVariants as recording
use Rattle.rebuilt_index.specs.Anew.{said_bytes}
use Rattle.rebuilt_index.specs.Seeking.{IsOpened}
use Rattle.rebuilt_index.specs.declared.bad.BadRebuild.{BadRebuild}
use Rattle.rebuilt_index.specs.declared.bad.BadRebuild.TheVariants.{Recording, Session, File}

-- What the blocks say is no handshake, of version 3.8 with security type None.
abbrev pub HasBadHello : Fault → List Block → Type 0
HasBadHello fault blocks = after (host_hello None) (said_bytes blocks) ≡ Faulty fault

-- It is a whole one, and then messages, of which the last is at fault.
pub record HasBadMessage (fault : Fault) (blocks : List Block) : Type 0 where
  pub hello : List ℕ
  pub joined : Joined
  pub stream : List ℕ
  pub opened : IsOpened blocks hello joined stream
  pub bad : rest (host_message joined.w joined.h) stream ≡ Faulty fault

-- The blocks take more bytes of a file than a count has room for.
abbrev pub AreTooLong : Fault → List Block → Type 0
AreTooLong fault blocks = (fault ≡ NumbersOut) × (2 ^ 62 < length (recording_bytes blocks))

-- Why what the blocks say isn't followed: memory was refused, or one of these.
abbrev pub StopsSession : Fault → List Block → Type 0
StopsSession fault blocks = (fault ≡ Memory) ⊎ (HasBadHello fault blocks ⊎ (HasBadMessage fault blocks ⊎ AreTooLong fault blocks))

-- Why there is no index of a file, of which these bytes were read: memory was refused, or they are no recording that
-- can be read on; the session that they have isn't followed; or the file has failed.
abbrev pub HasNoIndex : (has_failed : Type 0) → BadRebuild → (read : List ℕ) → Type 0
HasNoIndex has_failed (Recording bad) read = (bad ≡ recording.Memory) ⊎ (rest_of read ≡ Done (Err bad))
HasNoIndex has_failed (Session fault) read = StopsSession fault (blocks_in read)
HasNoIndex has_failed File read = has_failed

-- The same of blocks that were read.
abbrev pub StopsSeeking : BadRebuild → List Block → Type 0
StopsSeeking (Recording bad) blocks = bad ≡ recording.Memory
StopsSeeking (Session fault) blocks = StopsSession fault blocks
StopsSeeking File blocks = ⊥

-- To which recordings an index belongs (own).
use Rattle.std.specs.Prelude.{◌≡◌, List, ◌∷◌, ◌++◌, length, All}
use Rattle.recording.specs.Recording.{Block, recording_bytes}
use Rattle.recording_index.specs.IndexBytes.{AreMoments}
use Rattle.recording_index.specs.declared.moment.KeyMoment.{KeyMoment}

-- The key moment at which this block begins, behind these.
abbrev pub moment_before : List Block → Block → KeyMoment
moment_before earlier block = record { time = block.time; place = length (recording_bytes earlier) }

-- A block of the recording begins at the key moment's place, and has its time.
pub record IsAt (blocks : List Block) (m : KeyMoment) : Type 0 where
  pub earlier : List Block
  pub block : Block
  pub later : List Block
  pub all : blocks ≡ earlier ++ block ∷ later
  pub is : m ≡ moment_before earlier block

-- The index belongs to this recording: each of its key moments has the place at which a block begins, and the time of
-- that block.
pub record IsIndexOf (moments : List KeyMoment) (blocks : List Block) : Type 0 where
  pub in_order : AreMoments moments
  pub each : All (IsAt blocks) moments

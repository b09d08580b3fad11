-- A recording that grows, and its index (own).
use Rattle.std.specs.Prelude.{◌≡◌, ◌≤◌, ℕ, Bool, true, false, if◌then◌else◌, List, [], ◌∷◌, ◌++◌, length, take, map}
use Rattle.recording.specs.Recording.{Block, AreBlocks, last_time, recording_bytes, said_in}
use Rattle.recording.specs.BlockReading.{blocks_in}
use Rattle.recording.specs.Waiting.{IsRecorded, stamp}
use Rattle.recording.specs.declared.form.TheConstants.{LONGEST_SPELLING, LONGEST_WRITTEN}
use Rattle.recording_index.specs.IndexBytes.{index_bytes}
use Rattle.recording_index.specs.IndexReading.{moments_in}
use Rattle.recording_index.specs.KeyMoments.{IsIndexOf}
use Rattle.recording_index.specs.declared.moment.KeyMoment.{KeyMoment}
use Rattle.link.specs.declared.link.Gave.{Gave}
use Rattle.link.specs.declared.link.Gave.TheVariants as gave
use Rattle.record_link.specs.Tapes.{Tape, IsClear}

-- What contracts see of a recording that grows: its file, that of its index, the block that isn't spelled yet, and
-- whether the block that is spelled next is a key moment.
pub record Growing : Type 0 where
  pub tape : Tape
  pub index : Tape
  pub waiting : Block
  pub is_key : Bool

-- All that was recorded so far, each byte with its time: what is said in the blocks that were spelled, and in the one
-- that waits.
unfoldable pub recorded_in : Growing → List (ℕ × ℕ)
recorded_in g = said_in (blocks_in g.tape.spelled) ++ stamp g.waiting.time g.waiting.said

-- How many bytes are said before a key moment, in a recording of which these bytes were spelled.
unfoldable pub said_before : List ℕ → KeyMoment → ℕ
said_before spelled m = length (said_in (blocks_in (take m.place spelled)))

-- How many bytes were recorded before each key moment that was noted, and then before the one that is due, if any is.
unfoldable pub key_points : Growing → List ℕ
key_points g = map (said_before g.tape.spelled) (moments_in g.index.spelled) ++ (if g.is_key then length (said_in (blocks_in g.tape.spelled)) ∷ [] else [])

-- ---- what a recording keeps

-- The bytes that were spelled for the file are those of a recording, and the block that waits may come after its
-- blocks. Those that were spelled for the index are the index of key moments of this recording. While a key moment is
-- due, the index can take it.
pub record IsGrowing (g : Growing) : Type 0 where
  pub blocks : List Block
  pub spelled : g.tape.spelled ≡ recording_bytes blocks
  pub recorded : IsRecorded blocks g.waiting (recorded_in g)
  pub moments : List KeyMoment
  pub of : IsIndexOf moments blocks
  pub noted : g.index.spelled ≡ index_bytes moments
  pub clear : g.is_key ≡ true → IsClear g.index

-- ---- what is promised of it

-- The file has a beginning of the bytes of a recording. All that was recorded is, in order, what the file's whole
-- blocks say, then what the later blocks say that were spelled, and then what waits. While the file is still written,
-- the bytes that it lacks are those that it hasn't taken; these are at most one block, and so is what waits.
pub record IsKept (g : Growing) : Type 0 where
  pub blocks : List Block
  pub are : AreBlocks blocks
  pub spelled : g.tape.spelled ≡ recording_bytes blocks
  pub left : List ℕ
  pub begins : g.tape.stored ++ left ≡ recording_bytes blocks
  pub later : List Block
  pub whole : blocks ≡ blocks_in g.tape.stored ++ later
  pub says : recorded_in g ≡ said_in (blocks_in g.tape.stored) ++ (said_in later ++ stamp g.waiting.time g.waiting.said)
  pub follows : last_time 0 blocks ≤ g.waiting.time
  pub rest : g.tape.is_broken ≡ false → left ≡ g.tape.unsent
  pub few : length g.tape.unsent ≤ LONGEST_SPELLING
  pub short : length g.waiting.said ≤ LONGEST_WRITTEN

-- The file of the index has a beginning of the bytes of an index. Each of its key moments is where one of the blocks
-- begins that were spelled for the recording.
pub record IsIndexed (g : Growing) : Type 0 where
  pub blocks : List Block
  pub are : AreBlocks blocks
  pub spelled : g.tape.spelled ≡ recording_bytes blocks
  pub moments : List KeyMoment
  pub of : IsIndexOf moments blocks
  pub noted : g.index.spelled ≡ index_bytes moments
  pub left : List ℕ
  pub begins : g.index.stored ++ left ≡ index_bytes moments

-- All that was recorded is in whole blocks of the file.
pub record IsWhole (g : Growing) : Type 0 where
  pub fine : g.tape.is_broken ≡ false
  pub sent : g.tape.unsent ≡ []
  pub none : g.waiting.said ≡ []

-- The first of these bytes were recorded next, at this time, or none was. A recording never says that it ends; it
-- fails.
abbrev pub KeepsAs : Gave → ℕ → (old new : List (ℕ × ℕ)) → (bytes : List ℕ) → Type 0
KeepsAs (gave.Bytes count) time old new bytes = (1 ≤ count) × (count ≤ length bytes) × (new ≡ old ++ stamp time (take count bytes))
KeepsAs gave.Nothing time old new bytes = new ≡ old
KeepsAs gave.End time old new bytes = ⊥
KeepsAs gave.Failed time old new bytes = new ≡ old
